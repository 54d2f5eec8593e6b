use Rattle.spec_models.proofs.Values.{near-moved}
use Rattle.spec_models.proofs.model_laws.models_are_near_at_other_arguments_by_their_slope.Goals as goal

pub returns : goal.returns
returns c = near-moved
