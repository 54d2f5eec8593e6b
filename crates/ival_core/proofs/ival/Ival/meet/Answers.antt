use Rattle.spec_intervals.proofs.Rules.{Holds-meet}
use Rattle.ival_core.proofs.ival.Ival.meet.Goals as goal

pub returns-clause-holds : goal.returns-clause-holds
returns-clause-holds c r h g = rw c.intersection_of_ivals.ensures (Holds-meet _ _ r h g)
