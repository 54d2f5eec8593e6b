use Rattle.spec_models.proofs.Scaling.{scale_under, scale_over}
use Rattle.spec_models.proofs.rounding_laws.scaling_is_near.Goals as goal

pub returns : goal.returns
returns c = record { low = scale_under; high = scale_over }
