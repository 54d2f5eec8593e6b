use Rattle.spec_intervals.specs.Interval.{signed_square}
use Rattle.event_models.specs.Spans.{term_at}
use Rattle.event_models.proofs.Rules.{made_of_one}
use Rattle.event_models.proofs.by_steps.SpanArithmetic.signed_square.Goals as goal

pub returns-in-Some : goal.returns-in-Some
returns-in-Some c =
    let s = c.args.self.now in
    λ p part. made_of_one s.times.first s.times.last s.times.ordered signed_square c.ends_stay_in_order.ensures.signed_square c.covering_square.result _ c.covering_square.ensures _ c.in-Some.is (term_at s p)
