use Rattle.pool_core.proofs.Ending.{done_is_zero, zero_is_done}
use Rattle.pool_core.proofs.Falling.{run_falls}
use Rattle.pool_core.proofs.laws.each_step_lowers_todo_by_one.Goals as goal

pub returns-clause-runs : goal.returns-clause-runs
returns-clause-runs c = λ t root s xs s' sound kept runs. run_falls t sound root xs s s' runs kept

pub returns-clause-done : goal.returns-clause-done
returns-clause-done c = λ t s done. done_is_zero t s done

pub returns-clause-zero : goal.returns-clause-zero
returns-clause-zero c = λ t root s sound kept zero. zero_is_done t sound root s kept zero
