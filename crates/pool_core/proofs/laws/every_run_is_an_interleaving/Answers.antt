use Rattle.pool_core.proofs.Telling.{is_told}
use Rattle.pool_core.proofs.laws.every_run_is_an_interleaving.Goals as goal

pub returns : goal.returns
returns c = λ t root workers xs s some runs. is_told t root workers some xs s runs
