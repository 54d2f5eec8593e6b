use Rattle.pool_core.proofs.RunBalances.{run_balances}
use Rattle.pool_core.proofs.laws.every_run_balances_accounts.Goals as goal

pub returns : goal.returns
returns c = λ t root s xs s' accounts sound kept are runs. run_balances t sound root s xs s' accounts kept are runs
