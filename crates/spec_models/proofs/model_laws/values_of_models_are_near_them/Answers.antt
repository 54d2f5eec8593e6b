use Rattle.spec_models.proofs.Values.{near-value, near-by_value, near-none, near-next}
use Rattle.spec_models.proofs.model_laws.values_of_models_are_near_them.Goals as goal

pub returns : goal.returns
returns c = record { itself = near-value; others = near-by_value; none = near-none; next = near-next }
