use Rattle.std.proofs.Common.{refl}
use Rattle.steal_pool.proofs.seat.PoolSeat.end_seat.Goals as goal

pub returns : goal.returns
returns g c = rw (← c.self.view_is) (record { part = refl; table = c.self.invariant.2; left = c.pop_last_and_drop.ensures })
