use Rattle.spec_steps.specs.ColumnTerms.{sum}
use Rattle.spec_steps.proofs.Parts.{sum_parts}
use Rattle.event_bounds.proofs.Within.{first_within, second_within}
use Rattle.event_bounds.proofs.spans.SpanArithmetic.sum.Goals as goal

pub sum-requires-clause-x_within : goal.sum-requires-clause-x_within
sum-requires-clause-x_within c = first_within c.args.self.now c.requires.ready c.listed_bounds_are_within_limits.ensures sum (sum_parts _) c.args.x.now c.args.y.now c.requires.operands

pub sum-requires-clause-y_within : goal.sum-requires-clause-y_within
sum-requires-clause-y_within c = second_within c.args.self.now c.requires.ready c.listed_bounds_are_within_limits.ensures sum (sum_parts _) c.args.x.now c.args.y.now c.requires.operands
