use Rattle.std.proofs.Common.{subst}
use Rattle.event_models.specs.Sums.{IsSumOf}
use Rattle.event_models.proofs.AxisValues.{sums_made}
use Rattle.event_models.proofs.values.sum_model.Goals as goal

pub returns : goal.returns
returns c =
    let g = c.args.granule.now in
    let t = c.args.times.now in
    sums_made c.args.quantity t.first t.last g c.args.axis c.args.room.now t.ordered c.requires.granule c.requires.axis c.requires.served
    c.axis_coefficients-pairs.result.now c.axis_coefficients-pairs.ensures.terms c.axis_coefficients-pairs.ensures.count c.in_ok-wide.wide
    (subst (λ k. IsSumOf c.axis_coefficients-pairs.result.now c.args.room.now.rows k c.in_ok-wide.wide) c.first_place.ensures.equals c.in_ok-wide.ensures.covers)
    c.settled.result c.settled.ensures
