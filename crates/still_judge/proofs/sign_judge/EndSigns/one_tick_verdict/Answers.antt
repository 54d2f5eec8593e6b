use Rattle.std.proofs.Common.{rules, ◌≡◌, ◌∙◌, sym, ap, subst, to_z, w64}
use Rattle.std.proofs.lemmas.Int.{to_z-of_z}
use mir.Val.{SFits}
use Rattle.spec_trees.specs.declared.tree.Verdict.TheVariants.{One}
use Rattle.spec_events.specs.declared.dir.Dir.{Dir}
use Rattle.spec_events.specs.Stages.{has_no_turn}
use Rattle.spec_events.specs.Verdict.{differ}
use Rattle.spec_searches.specs.Event.{Event}
use Rattle.still_judge.specs.EndSigns.{AreCertifiedAt}
use Rattle.still_judge.proofs.EndSigns.{unit_clear, unit_one}
use Rattle.still_judge.proofs.sign_judge.EndSigns.one_tick_verdict.Goals as goal

pub returns-then-has_no_turn : goal.returns-then-has_no_turn
returns-then-has_no_turn c =
    let s = c.args.self.now.search.now in
    let dir = c.dir-dir.ensures ∙ ap (λ (e : Event). e.dir) c.event.ensures in
    let none = ap (λ (d : Dir). has_no_turn d c.args.first c.args.last) (sym dir) ∙ sym c.has_no_turn.ensures ∙ c.if-has_no_turn.true in
    sym (unit_clear s c.args.node c.args.first c.args.last c.is_search.ensures c.requires.signs c.requires.narrow none)

pub returns-in-Some : goal.returns-in-Some
returns-in-Some c =
    let s = c.args.self.now.search.now in
    let t = c.in-Some.time in
    let fits : SFits w64 t = search rules in
    let upto : SFits w64 c.args.node.b = search rules in
    let last : t ≡ c.args.node.b = sym (to_z-of_z w64 t fits) ∙ (ap (to_z w64) c.if-time-node.true ∙ to_z-of_z w64 c.args.node.b upto) in
    let dir = c.dir-dir.ensures ∙ ap (λ (e : Event). e.dir) c.event.ensures in
    let turn = ap (λ (d : Dir). differ d c.args.first c.args.last) (sym dir) ∙ sym c.differ.ensures ∙ c.if-differ.true in
    let conditions = subst (AreCertifiedAt s) last c.in-Some.ensures.certified in
    ap One c.turn_to.ensures ∙ sym (unit_one s c.args.node c.args.first c.args.last c.is_search.ensures c.requires.signs c.requires.narrow conditions turn)
