use Rattle.steal_pool.proofs.Pooling.{is_idle}
use Rattle.steal_pool.proofs.seat.PoolSeat.start_with_root.Goals as goal

pub returns-in_default-clause-later : goal.returns-in_default-clause-later
returns-in_default-clause-later g c = is_idle g.N.Naming.rules c.args.self.now

pub returns-then-not-shared-clause-later : goal.returns-then-not-shared-clause-later
returns-then-not-shared-clause-later g c = is_idle g.N.Naming.rules c.args.self.now
