use Rattle.spec_intervals.proofs.Holding.{Holds-sum}
use Rattle.ival_core.proofs.ival.Ival.add.Goals as goal

pub returns-clause-holds : goal.returns-clause-holds
returns-clause-holds c r t h g = rw c.sum_of_ivals.ensures (Holds-sum _ _ r t h g)
