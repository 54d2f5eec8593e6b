use Rattle.spec_steps.specs.ColumnTerms.{difference}
use Rattle.spec_steps.proofs.Parts.{difference_parts}
use Rattle.event_bounds.proofs.Within.{first_within, second_within}
use Rattle.event_bounds.proofs.spans.SpanArithmetic.difference.Goals as goal

pub difference-requires-clause-x_within : goal.difference-requires-clause-x_within
difference-requires-clause-x_within c = first_within c.args.self.now c.requires.ready c.listed_bounds_are_within_limits.ensures difference (difference_parts _) c.args.x.now c.args.y.now c.requires.operands

pub difference-requires-clause-y_within : goal.difference-requires-clause-y_within
difference-requires-clause-y_within c = second_within c.args.self.now c.requires.ready c.listed_bounds_are_within_limits.ensures difference (difference_parts _) c.args.x.now c.args.y.now c.requires.operands
