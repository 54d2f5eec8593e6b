use Rattle.std.proofs.Common.{◌≡◌, ℕ, ◌-◌, ◌<◌, ◌≤◌, length, slice_index_or}
use Rattle.event_models.specs.declared.rows.Kind.TheVariants.{Second}
use Rattle.event_models.specs.Rows.{AreEntriesBefore, AreRows, IsSumRow, no_row}
use Rattle.event_models.specs.Slopes.{IsEntrySlope}
use Rattle.event_models.proofs.filling_slopes.write_slope_entries.Given as goal

abbrev pub invariant-loop-i : goal.invariant-loop-i
invariant-loop-i l = record {
  count : length l.rows ≡ 32;
  rows : AreRows (l.n - 1 - l.i) l.rows;
  entries : AreEntriesBefore Second l.line (l.n - 1 - l.i) l.rows;
  sum_rows : (k : ℕ) → l.n - l.i ≤ k → k < l.n → IsSumRow (slice_index_or l.rows k no_row);
  slopes : (k : ℕ) → l.n - l.i ≤ k → k < l.n → IsEntrySlope l.line k (slice_index_or l.rows k no_row);
}
