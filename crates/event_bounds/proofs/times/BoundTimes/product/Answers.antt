use Rattle.std.proofs.Common.{arith}
use Rattle.event_bounds.proofs.Rules.{is_exponent, product_part, product_wide, products_wide}
use Rattle.event_bounds.proofs.times.BoundTimes.product.Goals as goal

pub coarse_sum-step-requires-clause-exponent : goal.coarse_sum-step-requires-clause-exponent
coarse_sum-step-requires-clause-exponent c =
    is_exponent 48062 c.mul.result (omega arith) (product_part c.args.x.range c.args.y.step _ c.requires.x_within.range c.requires.y_within.step c.mul.ensures.equals)

pub coarse_sum-step-requires-clause-other_exponent : goal.coarse_sum-step-requires-clause-other_exponent
coarse_sum-step-requires-clause-other_exponent c =
    is_exponent 48062 c.mul-2.result (omega arith) (product_part c.args.y.range c.args.x.step _ c.requires.y_within.range c.requires.x_within.step c.mul-2.ensures.equals)

pub bound-requires-clause-range : goal.bound-requires-clause-range
bound-requires-clause-range c = product_wide c.args.x.range c.args.y.range _ c.requires.x_within.range c.requires.y_within.range c.mul-range.ensures.equals

pub bound-requires-clause-step : goal.bound-requires-clause-step
bound-requires-clause-step c =
    products_wide c.mul.result c.mul-2.result _
    (product_part c.args.x.range c.args.y.step _ c.requires.x_within.range c.requires.y_within.step c.mul.ensures.equals)
    (product_part c.args.y.range c.args.x.step _ c.requires.y_within.range c.requires.x_within.step c.mul-2.ensures.equals)
    c.coarse_sum-step.ensures
