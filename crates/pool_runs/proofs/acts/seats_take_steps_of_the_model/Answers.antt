use Rattle.pool_runs.proofs.Seating.{is_run}
use Rattle.pool_runs.proofs.acts.seats_take_steps_of_the_model.Goals as goal

pub returns : goal.returns
returns c = λ t ledger root ss qs events some begin are. is_run t ledger root ss qs events some begin are
