use Rattle.std.proofs.Common.{rules}
use Rattle.spec_models.proofs.Curvature.{Within-tangent, near-curved, coefficient-derivative, curvature-take}
use Rattle.spec_models.proofs.model_laws.models_are_near_at_other_arguments_by_their_curvature.Goals as goal

pub returns : goal.returns
returns c = search (rules, Within-tangent, near-curved, coefficient-derivative, curvature-take)
