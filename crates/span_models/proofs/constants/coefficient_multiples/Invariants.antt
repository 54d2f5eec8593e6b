use Rattle.std.proofs.Common.{◌≡◌, ℕ, ◌<◌, length, get_or, pos, ◌*ℤ◌}
use Rattle.span_models.specs.Sizes.{terms}
use Rattle.span_models.proofs.constants.coefficient_multiples.Given as goal

abbrev pub invariant-loop-i : goal.invariant-loop-i
invariant-loop-i l = record {
  count : length l.products ≡ terms;
  numbers : (j : ℕ) → j < l.i → get_or l.products j (pos 0) ≡ l.first *ℤ get_or l.a j (pos 0);
}
