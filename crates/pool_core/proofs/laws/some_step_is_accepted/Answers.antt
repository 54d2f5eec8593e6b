use Rattle.pool_core.proofs.Ending.{progress}
use Rattle.pool_core.proofs.laws.some_step_is_accepted.Goals as goal

pub returns : goal.returns
returns c = progress
