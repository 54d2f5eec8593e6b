use Rattle.std.specs.List.{AllByRecursion, AllZip}
use Rattle.steal_pool.specs.Seats.{IsLeft}
use Rattle.steal_pool.specs.Pools.{KeepNone}
use Rattle.steal_pool.specs.Closing.{HasUsedUp}
use Rattle.steal_pool.specs.Runs.{IsLater}
use Rattle.steal_pool.proofs.Scanning.{Before}
use Rattle.steal_pool.proofs.finishing.drain_deques.Given as goal

abbrev pub invariant-loop-i : goal.invariant-loop-i
invariant-loop-i g l = record {
  changes : AllZip (IsLater g.N.Naming.rules) l.initial.seats l.seats;
  left : AllByRecursion (IsLeft g.N.Naming.rules) l.seats;
  free : KeepNone l.seats;
  used : Before HasUsedUp l.i l.seats;
}
