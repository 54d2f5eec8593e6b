use Rattle.std.proofs.Common.{◌≡◌, ◌∙◌, sym, ap}
use Rattle.spec_events.specs.Verdict.{differ}
use Rattle.spec_searches.specs.Event.{Event}
use Rattle.spec_searches.specs.Search.{Search}
use Rattle.spec_bounds.specs.Steady.{sign_at}
use Rattle.event_judge.proofs.memory.Memory.has_wanted_turn.Goals as goal

pub returns : goal.returns
returns g c = λ turn.
    let s = g.N.Naming.search in
    let dir : s.event.dir ≡ c.dir.result = sym (c.dir.ensures ∙ (ap (λ (e : Event). e.dir) c.event.ensures ∙ ap (λ (s : Search). s.event.dir) c.requires.named)) in
    let first = sym (c.sign_at-first.ensures ∙ λ i. sign_at ((c.first.ensures.search ∙ c.requires.named) i) (c.first.ensures.time i)) in
    let last = sym (c.sign_at-last.ensures ∙ λ i. sign_at ((c.last.ensures.search ∙ c.requires.named) i) (c.last.ensures.time i)) in
    (λ i. differ (dir i) (first i) (last i)) ∙ (sym c.differ.ensures ∙ turn)
