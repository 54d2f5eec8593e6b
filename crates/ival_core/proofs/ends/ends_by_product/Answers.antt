use Rattle.std.proofs.Common.{arith, w64}
use Rattle.std.proofs.lemmas.Int.{ints, to_z-of_z}
use Rattle.spec_numbers.proofs.Order.{le-mul, le-mul_neg}
use Rattle.ival_core.proofs.Signs.{min_first, min_second, max_first, max_second}
use Rattle.ival_core.proofs.ends.ends_by_product.Goals as goal

pub returns-then-z-ge0 : goal.returns-then-z-ge0
returns-then-z-ge0 c =
    let r = c.ranges.z in
    let o = le-mul c.args.a c.args.b c.args.z (omega (arith, ints, c.if-z-ge0.true)) c.requires in
    rw (to_z-of_z w64 c.args.a c.ranges.a, to_z-of_z w64 c.args.b c.ranges.b) (record { lesser = min_first _ _ o; greater = max_second _ _ o })

pub returns-else-z-ge0 : goal.returns-else-z-ge0
returns-else-z-ge0 c =
    let r = c.ranges.z in
    let o = le-mul_neg c.args.a c.args.b c.args.z (omega (arith, ints, c.if-z-ge0.false)) c.requires in
    rw (to_z-of_z w64 c.args.a c.ranges.a, to_z-of_z w64 c.args.b c.ranges.b) (record { lesser = min_second _ _ o; greater = max_first _ _ o })
