use Rattle.pool_core.proofs.Beginning.{opening_conserves}
use Rattle.pool_core.proofs.Keeping.{run_conserves}
use Rattle.pool_core.proofs.laws.every_run_tiles_the_root.Goals as goal

pub returns-clause-opening : goal.returns-clause-opening
returns-clause-opening c = λ t root workers valid. opening_conserves t root workers valid

pub returns-clause-runs : goal.returns-clause-runs
returns-clause-runs c = λ t root s xs s' sound kept runs. run_conserves t sound root xs s s' runs kept
