use Rattle.std.proofs.Common.{◌≡◌, ◌-◌, ◌≤◌, ◌<◌, ℕ, [], ◌∷◌, length, slice_index_or}
use Rattle.spec_pool.specs.History.{part_of}
use Rattle.span_ledger.specs.Rule.{view_of}
use Rattle.span_ledger.specs.Seats.{IsMade}
use Rattle.span_ledger.proofs.desk.SpanLedger.new.Given as goal

abbrev pub invariant-loop-number : goal.invariant-loop-number
invariant-loop-number l = record {
  table : l.maker.table_id ≡ l.table.shared.table_id;
  me : l.maker.me ≡ (view_of 0 l.number (l.seats - 1) (part_of (l.seats - 1) [] [] [] ∷ []), []);
  below : l.number ≤ l.seats - 1;
  count : length l.made.items ≡ l.number;
  made : (k : ℕ) (d : _) → k < length l.made.items → IsMade l.table.shared.table_id k (slice_index_or l.made.items k d);
}

abbrev pub decreases-loop-number : goal.decreases-loop-number
decreases-loop-number l = l.seats - l.number
