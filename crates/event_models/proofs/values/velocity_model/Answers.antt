use Rattle.std.proofs.Common.{unsigned_abs, w64}
use Rattle.std.proofs.lemmas.Int.{to_z-of_z}
use Rattle.event_models.proofs.AxisValues.{velocity_made}
use Rattle.event_models.proofs.values.velocity_model.Goals as goal

pub returns : goal.returns
returns c =
    let kept = to_z-of_z w64 c.args.seconds c.ranges.seconds in
    velocity_made c.args.sum.now c.in_ok-product.product c.widened.result c.in_ok-units.units (unsigned_abs c.args.seconds)
    (rw kept at c.in_ok-product.ensures) (rw kept at c.in_ok-units.ensures) c.widened.ensures
