use Rattle.spec_models.proofs.Between.{near-off, near-under, near-over}
use Rattle.spec_models.proofs.model_laws.widenings.Goals as goal

pub returns : goal.returns
returns c = record { around = near-off; under = near-under; over = near-over }
