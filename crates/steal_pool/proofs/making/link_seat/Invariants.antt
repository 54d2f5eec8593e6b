use Rattle.std.proofs.Common.{length}
use Rattle.steal_pool.specs.Stealers.{Linking}
use Rattle.steal_pool.proofs.making.link_seat.Given as goal

abbrev pub invariant-loop-j : goal.invariant-loop-j
invariant-loop-j g l = record {
  linking : Linking l.ledger l.fn.root (length l.initial.seats) l.i l.j l.seats;
}
