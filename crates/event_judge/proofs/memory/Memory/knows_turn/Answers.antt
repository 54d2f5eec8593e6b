use Rattle.std.proofs.Common.{◌≡◌, ◌∙◌, sym, ap}
use Rattle.spec_events.specs.Verdict.{differ}
use Rattle.spec_searches.specs.Event.{Event}
use Rattle.spec_searches.specs.Search.{Search}
use Rattle.event_judge.proofs.Remembered.{known_sign}
use Rattle.event_judge.proofs.memory.Memory.knows_turn.Goals as goal

pub returns-in-Some-Some : goal.returns-in-Some-Some
returns-in-Some-Some g c = λ turn.
    let s = g.N.Naming.search in
    let first = known_sign s c.first.result.time c.args.node.node.a c.remembered_sign.result c.in-Some-Some.first c.in-Some-Some.is-0 c.remembered_sign.ensures c.first.ensures.time in
    let last = known_sign s c.last.result.time c.args.node.node.b c.remembered_sign-2.result c.in-Some-Some.last c.in-Some-Some.is-1 c.remembered_sign-2.ensures c.last.ensures.time in
    let dir : s.event.dir ≡ c.dir.result = sym (c.dir.ensures ∙ (ap (λ (e : Event). e.dir) c.event.ensures ∙ ap (λ (s : Search). s.event.dir) c.requires.named)) in
    (λ i. differ (dir i) (first i) (last i)) ∙ (sym c.differ.ensures ∙ turn)
