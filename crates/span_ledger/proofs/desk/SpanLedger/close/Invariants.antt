use Rattle.std.proofs.Common.{◌≡◌, ◌+◌, List, length}
use Rattle.std.specs.List.{All}
use Rattle.spec_trees.specs.declared.book.Booked.{Booked}
use Rattle.spec_pool.specs.History.{FitsPart, EachFits}
use Rattle.span_ledger.specs.Rule.{the_part}
use Rattle.span_ledger.proofs.desk.SpanLedger.close.Given as goal

abbrev pub invariant-loop-seat : goal.invariant-loop-seat
invariant-loop-seat l = record {
  table : l.all.table_id ≡ l.self.table.shared.table_id;
  idle : l.all.me.0.holds ≡ 0;
  ours : All (λ s. s.raw.table_id ≡ l.self.table.shared.table_id) l.seats.items;
  count : length l.all.me.0.parts + length l.seats.items ≡ length l.fn.seats.items;
  kept : (log : List Booked) → EachFits log l.all.me.0.parts → All (λ s. FitsPart log (the_part s.raw.me.0.parts)) l.seats.items → All (λ s. FitsPart log (the_part s.raw.me.0.parts)) l.fn.seats.items;
}

abbrev pub decreases-loop-seat : goal.decreases-loop-seat
decreases-loop-seat l = goal.left-loop-seat l
