use Rattle.pool_core.proofs.Accounting.{step_changes}
use Rattle.pool_core.proofs.laws.each_step_is_accounted_for.Goals as goal

pub returns : goal.returns
returns c = λ t s x s' accounts steps are. step_changes t s x s' accounts steps are
