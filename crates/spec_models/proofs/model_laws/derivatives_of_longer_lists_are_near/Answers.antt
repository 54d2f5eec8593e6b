use Rattle.spec_models.proofs.Curvature.{near-steeper}
use Rattle.spec_models.proofs.model_laws.derivatives_of_longer_lists_are_near.Goals as goal

pub returns : goal.returns
returns c = near-steeper
