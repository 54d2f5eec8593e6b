use Rattle.std.proofs.Common.{arith, unsigned_abs, w64}
use Rattle.std.proofs.lemmas.Int.{ints, to_z-of_z}
use Rattle.event_models.proofs.AxisValues.{scaled_made}
use Rattle.event_models.proofs.values.scaled_model.Goals as goal

pub returns : goal.returns
returns c =
    let kept = to_z-of_z w64 c.args.seconds c.ranges.seconds in
    let long = c.requires.long in
    scaled_made c.args.sum.now c.in_ok-factor.factor c.product.result (unsigned_abs c.args.seconds) (omega (arith, ints, long))
    (rw kept at c.in_ok-factor.ensures) c.product.ensures
