use Rattle.spec_steps.proofs.Parts.{scaled_part}
use Rattle.event_bounds.proofs.Within.{constant_part, factor_part, part_within}
use Rattle.event_bounds.proofs.spans.SpanArithmetic.scaled.Goals as goal

pub constant-constant-requires : goal.constant-constant-requires
constant-constant-requires c = factor_part c.args.self.now c.requires.ready c.args.factor c.factor.result c.factor.ensures

pub product-requires-clause-x_within : goal.product-requires-clause-x_within
product-requires-clause-x_within c = constant_part c.args.self.now c.requires.ready c.args.factor c.factor.result c.constant-constant.result c.factor.ensures c.constant-constant.ensures

pub product-requires-clause-y_within : goal.product-requires-clause-y_within
product-requires-clause-y_within c =
    let of = c.requires.operand in
    part_within c.args.self.now c.requires.ready c.listed_bounds_are_within_limits.ensures of.operand (scaled_part _ _ of.operand of.part) c.args.x.now of.of_operand
