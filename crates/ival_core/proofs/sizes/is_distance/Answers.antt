use Rattle.std.proofs.Common.{◌^◌, ◌*◌, ap, arith}
use Rattle.std.proofs.lemmas.Int.{ints, to_z-of_z}
use Rattle.ival_core.proofs.DecimalSizes.{distance-capped, tested_lt}
use Rattle.ival_core.proofs.sizes.is_distance.Goals as goal

pub returns : goal.returns
returns c =
    let m = c.ranges.mant in
    let e = c.ranges.exp in
    tested_lt _ _ _ _ _ (simp to_z-of_z at c.capped_magnitude-numerator.ensures.numerator) (ap (λ n. 2 ^ 36 * n) (simp to_z-of_z at c.capped_magnitude-numerator.ensures.denominator)) (distance-capped c.args.mant c.args.exp (omega (arith, ints)))
