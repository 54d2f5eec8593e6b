use Rattle.event_models.proofs.AxisValues.{position_made}
use Rattle.event_models.proofs.values.position_model.Goals as goal

pub returns : goal.returns
returns c = position_made c.args.sum.now c.widened.result c.error-error.ensures.small c.widened.ensures
