use Rattle.spec_models.proofs.Coefficients.{sizes-take, sizes-drop, sizes-parts, weighted-take}
use Rattle.spec_models.proofs.model_laws.sums_of_magnitudes_grow_by_one_coefficient.Goals as goal

pub returns : goal.returns
returns c = record { take = sizes-take; drop = sizes-drop; parts = sizes-parts; weighted = weighted-take }
