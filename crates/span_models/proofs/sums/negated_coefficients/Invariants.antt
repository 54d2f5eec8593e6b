use Rattle.std.proofs.Common.{◌≡◌, ℕ, ◌<◌, ◌≤◌, length, get_or, pos, neg_ℤ, unsigned_abs}
use Rattle.span_models.specs.Sizes.{terms, size_limit}
use Rattle.span_models.proofs.sums.negated_coefficients.Given as goal

abbrev pub invariant-loop-i : goal.invariant-loop-i
invariant-loop-i l = record {
  count : length l.negated ≡ terms;
  numbers : (j : ℕ) → j < l.i → get_or l.negated j (pos 0) ≡ neg_ℤ (get_or l.a j (pos 0));
  small : (j : ℕ) → j < l.i → unsigned_abs (get_or l.negated j (pos 0)) ≤ size_limit;
}
