use Rattle.std.proofs.Common.{◌∙◌, arith, rules}
use Rattle.std.proofs.lemmas.Int.{ints}
use Rattle.std.specs.Int.{int_min, int_max}
use Rattle.ival_core.proofs.Passing.{made_of_products}
use Rattle.ival_core.proofs.Signs.{above, below}
use Rattle.ival_core.proofs.Passing.{order_of_ends}
use Rattle.ival_core.proofs.ends.products_by_sign.Goals as goal

pub returns-then-a-ge0 : goal.returns-then-a-ge0
returns-then-a-ge0 c =
    let is = above c.args.a c.args.b c.args.c c.args.d c.requires.other_order c.requires.order (let p = c.ranges.a in omega (arith, ints, c.if-a-ge0.true)) in
    record { least = made_of_products int_min c.args.a c.args.b c.args.c c.products_with_factor.result.0 c.ranges.a c.ranges.b c.ranges.c (search rules) c.products_with_factor.ensures.lesser ∙ is.0; greatest = made_of_products int_max c.args.a c.args.b c.args.d c.products_with_factor-then-a-ge0.result.1 c.ranges.a c.ranges.b c.ranges.d (search rules) c.products_with_factor-then-a-ge0.ensures.greater ∙ is.1 }

pub returns-then-b-le0 : goal.returns-then-b-le0
returns-then-b-le0 c =
    let is = below c.args.a c.args.b c.args.c c.args.d c.requires.other_order c.requires.order (let q = c.ranges.b in omega (arith, ints, c.if-b-le0.true)) in
    record { least = made_of_products int_min c.args.a c.args.b c.args.d c.products_with_factor-then-b-le0.result.0 c.ranges.a c.ranges.b c.ranges.d (search rules) c.products_with_factor-then-b-le0.ensures.lesser ∙ is.0; greatest = made_of_products int_max c.args.a c.args.b c.args.c c.products_with_factor-then-b-le0-2.result.1 c.ranges.a c.ranges.b c.ranges.c (search rules) c.products_with_factor-then-b-le0-2.ensures.greater ∙ is.1 }

pub products_with_factor-requires : goal.products_with_factor-requires
products_with_factor-requires c = order_of_ends c.args.a c.args.b c.ranges.a c.ranges.b c.requires.order

pub products_with_factor-requires-then-a-ge0 : goal.products_with_factor-requires-then-a-ge0
products_with_factor-requires-then-a-ge0 c = order_of_ends c.args.a c.args.b c.ranges.a c.ranges.b c.requires.order

pub products_with_factor-requires-then-b-le0 : goal.products_with_factor-requires-then-b-le0
products_with_factor-requires-then-b-le0 c = order_of_ends c.args.a c.args.b c.ranges.a c.ranges.b c.requires.order

pub products_with_factor-requires-then-b-le0-2 : goal.products_with_factor-requires-then-b-le0-2
products_with_factor-requires-then-b-le0-2 c = order_of_ends c.args.a c.args.b c.ranges.a c.ranges.b c.requires.order

pub products_across_zero-requires-clause-order : goal.products_across_zero-requires-clause-order
products_across_zero-requires-clause-order c = order_of_ends c.args.c c.args.d c.ranges.c c.ranges.d c.requires.other_order
