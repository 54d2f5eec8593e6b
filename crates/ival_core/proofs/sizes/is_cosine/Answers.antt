use Rattle.std.proofs.Common.{arith}
use Rattle.std.proofs.lemmas.Int.{ints, to_z-of_z}
use Rattle.ival_core.proofs.DecimalSizes.{cosine-capped, tested_le}
use Rattle.ival_core.proofs.sizes.is_cosine.Goals as goal

pub returns : goal.returns
returns c =
    let m = c.ranges.mant in
    let e = c.ranges.exp in
    tested_le _ _ _ _ _ (simp to_z-of_z at c.capped_magnitude-numerator.ensures.numerator) (simp to_z-of_z at c.capped_magnitude-numerator.ensures.denominator) (cosine-capped c.args.mant c.args.exp (omega (arith, ints)))
