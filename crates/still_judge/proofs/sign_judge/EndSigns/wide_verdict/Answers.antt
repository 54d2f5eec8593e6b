use Rattle.std.proofs.Common.{◌∙◌, sym, ap}
use Rattle.spec_events.specs.declared.dir.Dir.{Dir}
use Rattle.spec_events.specs.Verdict.{differ}
use Rattle.spec_searches.specs.Event.{Event}
use Rattle.still_judge.proofs.EndSigns.{wide_split}
use Rattle.still_judge.proofs.sign_judge.EndSigns.wide_verdict.Goals as goal

pub returns-in-Some : goal.returns-in-Some
returns-in-Some c =
    let dir = c.dir.ensures ∙ ap (λ (e : Event). e.dir) c.event.ensures in
    let turn = ap (λ (d : Dir). differ d c.args.first c.args.last) (sym dir) ∙ sym c.differ.ensures ∙ c.if-not-differ.false in
    let above = sym c.may_be_split.ensures ∙ c.if-not-may_be_split.false in
    sym (wide_split c.args.self.now.search.now c.args.node c.args.first c.args.last c.is_search.ensures c.requires c.in-Some.field-0 c.in-Some.ensures above turn)
