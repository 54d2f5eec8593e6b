use Rattle.spec_models.proofs.Made.{near-multiplied, near-greater, near-lesser}
use Rattle.spec_models.proofs.model_laws.multiples_are_near_multiplied_models.Goals as goal

pub returns : goal.returns
returns c = record { whole = near-multiplied; greater = near-greater; lesser = near-lesser }
