use Rattle.std.proofs.Common.{◌≡◌, ℕ, ◌+◌, ◌<◌, length, slice_index_or, pos}
use Rattle.event_models.specs.Rows.{terms}
use Rattle.event_models.specs.Sums.{half}
use Rattle.event_models.proofs.sums.joined.Given as goal

abbrev pub invariant-loop-k : goal.invariant-loop-k
invariant-loop-k l = record {
  count : length l.numbers ≡ terms;
  low : (j : ℕ) → j < l.k → slice_index_or l.numbers j (pos 0) ≡ slice_index_or l.low j (pos 0);
  high : (j : ℕ) → j < l.k → slice_index_or l.numbers (half + j) (pos 0) ≡ slice_index_or l.high j (pos 0);
}
