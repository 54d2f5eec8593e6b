use Rattle.spec_intervals.proofs.Holding.{Holds-product}
use Rattle.ival_core.proofs.ival.Ival.mul.Goals as goal

pub returns-clause-holds : goal.returns-clause-holds
returns-clause-holds c r t h g = rw c.product_of_ivals.ensures (Holds-product _ _ r t h g)
