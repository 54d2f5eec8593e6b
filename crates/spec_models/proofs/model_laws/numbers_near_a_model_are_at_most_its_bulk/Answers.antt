use Rattle.spec_models.proofs.Values.{near-above, near-below}
use Rattle.spec_models.proofs.model_laws.numbers_near_a_model_are_at_most_its_bulk.Goals as goal

pub returns : goal.returns
returns c = record { above = near-above; below = near-below }
