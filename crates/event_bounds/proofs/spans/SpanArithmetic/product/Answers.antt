use Rattle.spec_steps.specs.ColumnTerms.{product}
use Rattle.spec_steps.proofs.Parts.{product_parts}
use Rattle.event_bounds.proofs.Within.{first_within, second_within}
use Rattle.event_bounds.proofs.spans.SpanArithmetic.product.Goals as goal

pub product-requires-clause-x_within : goal.product-requires-clause-x_within
product-requires-clause-x_within c = first_within c.args.self.now c.requires.ready c.listed_bounds_are_within_limits.ensures product (product_parts _) c.args.x.now c.args.y.now c.requires.operands

pub product-requires-clause-y_within : goal.product-requires-clause-y_within
product-requires-clause-y_within c = second_within c.args.self.now c.requires.ready c.listed_bounds_are_within_limits.ensures product (product_parts _) c.args.x.now c.args.y.now c.requires.operands
