use Rattle.std.proofs.Common.{◌≡◌, length}
use Rattle.steal_pool.specs.Pools.{AreLinked}
use Rattle.steal_pool.specs.Stealers.{Joined, NoStealerBefore}
use Rattle.steal_pool.proofs.joining.join_all_stealers.Given as goal

abbrev pub invariant-loop-i : goal.invariant-loop-i
invariant-loop-i g l = record {
  len : length l.seats ≡ length l.initial.seats;
  linked : AreLinked l.seats;
  joined : Joined l.initial.seats l.seats;
  before : NoStealerBefore l.i l.seats;
}
