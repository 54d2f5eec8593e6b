use Rattle.std.proofs.Common.{◌≡◌, ◌+◌, ◌≤◌, ◌++◌, length}
use Rattle.std.specs.Prelude.{vec_capacity, vec_len}
use Rattle.std.specs.List.{AllZip}
use Rattle.steal_pool.specs.Closing.{Leaves}
use Rattle.steal_pool.proofs.finishing.end_each_seat.Given as goal

abbrev pub invariant-loop-seat : goal.invariant-loop-seat
invariant-loop-seat g l = record {
  left : AllZip Leaves l.yielded l.entries.items;
  whole : l.fn.seats.items ≡ l.yielded ++ l.seat-iterator.rest.items;
  room : length l.fn.seats.items ≤ vec_capacity l.fn.entries → vec_len l.entries + length l.seat-iterator.rest.items ≤ vec_capacity l.entries;
}
