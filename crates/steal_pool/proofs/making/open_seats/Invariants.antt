use Rattle.std.proofs.Common.{◌≡◌, ◌++◌}
use Rattle.std.specs.List.{AllZip}
use Rattle.steal_pool.specs.Stealers.{Opens}
use Rattle.steal_pool.proofs.making.open_seats.Given as goal

abbrev pub invariant-loop-entry : goal.invariant-loop-entry
invariant-loop-entry g l = record {
  opened : AllZip (Opens l.ledger l.fn.root) l.yielded l.seats.items;
  whole : l.fn.entries.items ≡ l.yielded ++ l.entry-iterator.rest.items;
}
