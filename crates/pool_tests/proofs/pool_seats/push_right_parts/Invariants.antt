use Rattle.std.proofs.Common.{◌≡◌}
use Rattle.steal_pool.specs.Seats.{SameSeat}
use Rattle.pool_tests.proofs.pool_seats.push_right_parts.Given as goal

abbrev pub invariant-loop : goal.invariant-loop
invariant-loop g l = record {
  same : SameSeat l.initial.seat l.seat;
  refusal : l.seat.refusal ≡ l.initial.seat.refusal;
}
