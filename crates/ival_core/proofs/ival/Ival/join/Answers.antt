use Rattle.spec_intervals.proofs.Rules.{Holds-join_either}
use Rattle.ival_core.proofs.ival.Ival.join.Goals as goal

pub returns-clause-holds : goal.returns-clause-holds
returns-clause-holds c r h = rw c.hull_of_ivals.ensures (Holds-join_either _ _ r h)
