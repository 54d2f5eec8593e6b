use Rattle.std.proofs.Common.{arith}
use Rattle.pool_runs.proofs.Seating.{is_run}
use Rattle.pool_runs.proofs.acts.runs_take_steps_of_the_model.Goals as goal

pub returns : goal.returns
returns c = λ t root workers limit h events some are.
    is_run t h.ledger root h.come.0 h.worked events (omega (arith, some, h.come.1)) h.come.2 are
