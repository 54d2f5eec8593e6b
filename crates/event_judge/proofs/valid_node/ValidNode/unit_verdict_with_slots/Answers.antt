use Rattle.std.proofs.Common.{◌≡◌, ◌∙◌, sym, ap, false, refl, true}
use Rattle.spec_intervals.specs.Enclosure.{Enclosure}
use Rattle.spec_intervals.specs.Signs.{sign_of}
use Rattle.spec_events.specs.Stages.{end_verdict}
use Rattle.spec_searches.specs.Search.{criteria}
use Rattle.spec_bounds.specs.Steady.{sign_at as sign_then}
use Rattle.step_enclosures.specs.Moments.{StepMoment}
use Rattle.event_judge.specs.Found.{enclosure_at, first_moment, guards_at, is_refuted_at, last_moment, sign_at}
use Rattle.event_judge.proofs.valid_node.ValidNode.unit_verdict_with_slots.Goals as goal

pub returns-then-is_refuted : goal.returns-then-is_refuted
returns-then-is_refuted g c =
    let s = c.args.self.search.now in
    let n = c.args.self.node in
    let at_last = ap (λ (m : StepMoment). m.moment) (c.function_enclosure.ensures.same ∙ c.new-made.ensures) ∙ c.last_snapshot-states.ensures in
    let some : is_refuted_at s (last_moment s n) ≡ true = ap (is_refuted_at s) (sym at_last) ∙ (sym c.is_refuted.ensures.refuted ∙ c.if-is_refuted.true) in
    rw some refl

pub returns-else-is_refuted : goal.returns-else-is_refuted
returns-else-is_refuted g c =
    let s = c.args.self.search.now in
    let n = c.args.self.node in
    let at_first = ap (λ (m : StepMoment). m.moment) c.new-made.ensures ∙ c.last_snapshot-states.ensures in
    let at_last = ap (λ (m : StepMoment). m.moment) c.function_enclosure.ensures.same ∙ at_first in
    let at_end = ap (λ (m : StepMoment). m.moment) c.is_refuted.ensures.same ∙ at_last in
    let none : is_refuted_at s (last_moment s n) ≡ false = ap (is_refuted_at s) (sym at_last) ∙ (sym c.is_refuted.ensures.refuted ∙ c.if-is_refuted.false) in
    let first : c.sign_at-first.result ≡ sign_at s (first_moment s n) = c.sign_at-first.ensures ∙ λ i. sign_then (c.first.ensures.search i) (c.first.ensures.time i) in
    let last : c.sign-last.result ≡ sign_at s (last_moment s n) = c.sign-last.ensures ∙ ap (λ (e : Enclosure). sign_of e.range) (c.function_enclosure.ensures.enclosure ∙ ap (enclosure_at s) at_first) in
    (c.end_verdict.ensures ∙ λ i. end_verdict (criteria s) n (guards_at s (at_end i)) (first i) (last i))
    ∙ rw none (λ i. end_verdict (criteria s) n (guards_at s (last_moment s n)) (sign_at s (first_moment s n)) (sign_at s (last_moment s n)))
