use Rattle.std.proofs.Common.{length}
use Rattle.steal_pool.specs.Stealers.{Linking}
use Rattle.steal_pool.proofs.making.link_all_seats.Given as goal

abbrev pub invariant-loop-i : goal.invariant-loop-i
invariant-loop-i g l = record {
  linking : Linking l.ledger l.fn.root (length l.initial.seats) l.i 0 l.seats;
}
