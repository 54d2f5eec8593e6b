use Rattle.std.proofs.Common.{arith, unsigned_abs, w64}
use Rattle.std.proofs.lemmas.Int.{ints, to_z-of_z}
use Rattle.event_models.proofs.AxisValues.{factor_made, one_scaled}
use Rattle.event_models.proofs.length_factors.length_factor.Goals as goal

pub returns : goal.returns
returns c =
    let kept = to_z-of_z w64 c.args.seconds c.ranges.seconds in
    let long = c.requires.long in
    factor_made c.scale.result c.of_interval.result (unsigned_abs c.args.seconds) (omega (arith, ints, long))
    c.of_interval.ensures (one_scaled c.scale.result (unsigned_abs c.args.seconds) (rw kept at c.scale.ensures.holds))
