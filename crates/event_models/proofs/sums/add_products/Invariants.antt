use Rattle.std.proofs.Common.{◌≡◌, ℕ, ◌+◌, ◌*◌, ◌^◌, ◌<◌, ◌≤◌, ◌+ℤ◌, ◌*ℤ◌, length, slice_index_or, pos, unsigned_abs}
use Rattle.event_models.specs.Sums.{half}
use Rattle.event_models.proofs.sums.add_products.Given as goal

abbrev pub invariant-loop-k : goal.invariant-loop-k
invariant-loop-k l = record {
  count : length l.sums ≡ half;
  numbers : (j : ℕ) → j < l.k → slice_index_or l.sums j (pos 0) ≡ slice_index_or l.fn.sums j (pos 0) +ℤ l.pair.lo *ℤ slice_index_or l.row.coefficients (l.from_term + j) (pos 0);
  small : (j : ℕ) → j < l.k → unsigned_abs (slice_index_or l.sums j (pos 0)) ≤ (l.count + 1) * 2 ^ 120;
  rest : (j : ℕ) → l.k ≤ j → slice_index_or l.sums j (pos 0) ≡ slice_index_or l.fn.sums j (pos 0);
}
