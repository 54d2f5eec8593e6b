use Rattle.std.proofs.Common.{refl, sym, subst}
use Rattle.spec_ephemeris.specs.Granules.{series_of}
use Rattle.spec_bodies.specs.declared.quantity.Quantity.TheVariants.{Position, Velocity}
use Rattle.event_models.specs.Granules.{IsAxisModel, IsSumModel}
use Rattle.event_models.proofs.AxisValues.{axis_model_made}
use Rattle.event_models.proofs.GranuleLines.{seconds_kept}
use Rattle.event_models.proofs.values.axis_model.Goals as goal

pub returns-in-Position : goal.returns-in-Position
returns-in-Position c =
    let g = c.args.granule.now in
    let t = c.args.times.now in
    let sums = subst (λ quantity. IsSumModel quantity t.first t.last (series_of g c.args.axis) c.in_ok-sum.sum) c.in-Position.is c.in_ok-sum.ensures in
    subst (λ quantity. IsAxisModel quantity t.first t.last g c.args.axis c.position_model.result) (sym c.in-Position.is)
    (axis_model_made Position t.first t.last g c.args.axis t.ordered c.requires.granule c.requires.axis c.in_ok-sum.sum c.position_model.result sums (λ is. c.position_model.ensures (series_of g c.args.axis)))

pub returns-in-Velocity : goal.returns-in-Velocity
returns-in-Velocity c =
    let g = c.args.granule.now in
    let t = c.args.times.now in
    let over = c.requires.granule in
    let kept = seconds_kept t.first t.last g.start g.seconds over.evaluable.long over.evaluable.short over.evaluable.start over.from t.ordered over.upto in
    let sums = subst (λ quantity. IsSumModel quantity t.first t.last (series_of g c.args.axis) c.in_ok-sum.sum) c.in-Velocity.is c.in_ok-sum.ensures in
    subst (λ quantity. IsAxisModel quantity t.first t.last g c.args.axis c.velocity_model.result) (sym c.in-Velocity.is)
    (axis_model_made Velocity t.first t.last g c.args.axis t.ordered over c.requires.axis c.in_ok-sum.sum c.velocity_model.result sums (λ is. (rw kept at c.velocity_model.ensures) (series_of g c.args.axis) is refl))
