use Rattle.std.proofs.Common.{refl}
use Rattle.steal_pool.proofs.Entering.{seat_idle}
use Rattle.steal_pool.proofs.seat.PoolSeat.next_node.Goals as goal

pub returns-in-Some-clause-works : goal.returns-in-Some-clause-works
returns-in-Some-clause-works g c = seat_idle g.N.Naming.rules c.args.self.now

pub returns-in-Some-clause-same : goal.returns-in-Some-clause-same
returns-in-Some-clause-same g c = record { ways = refl; table = refl; terms = refl; number = refl; room = refl }
