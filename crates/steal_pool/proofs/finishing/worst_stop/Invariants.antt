use Rattle.std.proofs.Common.{◌≡◌, take}
use Rattle.steal_pool.specs.Closing.{worst_stop}
use Rattle.steal_pool.proofs.finishing.worst_stop.Given as goal

abbrev pub invariant-loop-seat : goal.invariant-loop-seat
invariant-loop-seat g l = l.worst ≡ worst_stop (take l.seat-index l.seats)
