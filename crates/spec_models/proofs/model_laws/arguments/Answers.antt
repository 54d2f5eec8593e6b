use Rattle.spec_models.proofs.Values.{near-argument, near-shifted, near-line}
use Rattle.spec_models.proofs.model_laws.arguments.Goals as goal

pub returns : goal.returns
returns c = record { itself = near-argument; times = near-shifted; line = near-line }
