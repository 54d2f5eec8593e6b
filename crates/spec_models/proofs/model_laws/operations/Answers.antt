use Rattle.spec_models.proofs.Made.{near-negated, near-sum, near-difference, near-product}
use Rattle.spec_models.proofs.model_laws.operations.Goals as goal

pub returns : goal.returns
returns c = record { negated = near-negated; sum = near-sum; difference = near-difference; product = near-product }
