use Rattle.std.proofs.Common.{◌<◌, length}
use Rattle.spec_pool.proofs.Weights.{weigh}
use Rattle.steal_pool.specs.Seats.{Seat}
use Rattle.steal_pool.specs.Pools.{AreLinked}
use Rattle.steal_pool.specs.Stealers.{Joined, NoStealerBefore}
use Rattle.steal_pool.proofs.joining.join_stealers_of_seat.Given as goal

abbrev pub invariant-loop : goal.invariant-loop
invariant-loop g l = record {
  inside : l.i < length l.seats;
  linked : AreLinked l.seats;
  joined : Joined l.initial.seats l.seats;
  before : NoStealerBefore l.i l.seats;
}

abbrev pub decreases-loop : goal.decreases-loop
decreases-loop g l = weigh (λ (s : Seat). length s.worker.stealers) l.seats
