use Rattle.std.proofs.Common.{◌≡◌, ℕ, ◌*◌, ◌^◌, ◌<◌, ◌≤◌, length, get_or, pos, unsigned_abs}
use Rattle.span_models.specs.Sizes.{terms}
use Rattle.span_models.specs.Columns.{column}
use Rattle.span_models.proofs.columns.product_coefficients.Given as goal

abbrev pub invariant-loop-k : goal.invariant-loop-k
invariant-loop-k l = record {
  count : length l.sums ≡ terms;
  columns : (k : ℕ) → k < l.k → get_or l.sums k (pos 0) ≡ column l.a l.b k;
  small : (k : ℕ) → k < l.k → unsigned_abs (get_or l.sums k (pos 0)) ≤ terms * 2 ^ 120;
}
