use Rattle.event_bounds.proofs.Rules.{sum_wide}
use Rattle.event_bounds.proofs.times.BoundTimes.sum.Goals as goal

pub bound-requires-clause-range : goal.bound-requires-clause-range
bound-requires-clause-range c = sum_wide c.args.x.range c.args.y.range _ c.requires.x_within.range c.requires.y_within.range c.coarse_sum-range.ensures

pub bound-requires-clause-step : goal.bound-requires-clause-step
bound-requires-clause-step c = sum_wide c.args.x.step c.args.y.step _ c.requires.x_within.step c.requires.y_within.step c.coarse_sum-step.ensures
