use Rattle.spec_intervals.proofs.Rules.{Holds-difference}
use Rattle.ival_core.proofs.ival.Ival.sub.Goals as goal

pub returns-clause-holds : goal.returns-clause-holds
returns-clause-holds c r t h g = rw c.difference_of_ivals.ensures (Holds-difference _ _ r t h g)
