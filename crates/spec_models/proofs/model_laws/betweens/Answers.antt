use Rattle.spec_models.proofs.Between.{near-between, near-same}
use Rattle.spec_models.proofs.model_laws.betweens.Goals as goal

pub returns : goal.returns
returns c = record { between = near-between; same = near-same }
