use Rattle.spec_models.proofs.Made.{near-error, near-raised, near-lowered, near-cut}
use Rattle.spec_models.proofs.model_laws.changes.Goals as goal

pub returns : goal.returns
returns c = record { error = near-error; raised = near-raised; lowered = near-lowered; cut = near-cut }
