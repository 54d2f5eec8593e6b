use Rattle.spec_intervals.specs.Interval.{sum}
use Rattle.event_models.specs.Spans.{term_at}
use Rattle.event_models.proofs.Rules.{made_of_two}
use Rattle.event_models.proofs.by_steps.SpanArithmetic.sum.Goals as goal

pub returns-in-Some-Some : goal.returns-in-Some-Some
returns-in-Some-Some c =
    let s = c.args.self.now in
    λ p q part. made_of_two s.times.first s.times.last s.times.ordered sum c.ends_stay_in_order.ensures.sum c.covering_sum.result _ _ c.covering_sum.ensures _ _ c.in-Some-Some.is-0 c.in-Some-Some.is-1 (term_at s p) (term_at s q)
