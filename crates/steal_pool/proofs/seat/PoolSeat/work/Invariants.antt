use Rattle.std.proofs.Common.{◌≡◌, None}
use Rattle.steal_pool.specs.Seats.{SameSeat, Works}
use Rattle.steal_pool.proofs.seat.PoolSeat.work.Given as goal

abbrev pub invariant-loop : goal.invariant-loop
invariant-loop g l = record {
  works : Works g.N.Naming.rules l.initial.self l.self;
  same : SameSeat l.initial.self l.self;
  free : l.self.refusal ≡ None;
}
