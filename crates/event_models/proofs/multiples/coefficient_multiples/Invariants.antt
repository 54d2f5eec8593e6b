use Rattle.std.proofs.Common.{◌≡◌, ℕ, ◌<◌, ◌≤◌, length, slice_index_or, pos, ◌*ℤ◌, unsigned_abs}
use Rattle.spec_models.specs.Models.{coefficient}
use Rattle.event_models.specs.Rows.{sum_limit, terms}
use Rattle.event_models.proofs.multiples.coefficient_multiples.Given as goal

abbrev pub invariant-loop-j : goal.invariant-loop-j
invariant-loop-j l = record {
  count : length l.numbers ≡ terms;
  numbers : (j : ℕ) → j < l.j → slice_index_or l.numbers j (pos 0) ≡ pos l.k *ℤ coefficient l.coefficients j;
  small : (j : ℕ) → j < l.j → unsigned_abs (slice_index_or l.numbers j (pos 0)) ≤ sum_limit;
}
