use Rattle.std.proofs.Common.{◌≡◌, ℕ, ◌^◌, ◌<◌, length, get_or, pos, ◌+ℤ◌}
use Rattle.spec_numbers.specs.Numbers.{floor_div}
use Rattle.span_models.specs.Sizes.{terms}
use Rattle.span_models.proofs.sums.coefficient_sums.Given as goal

abbrev pub invariant-loop-i : goal.invariant-loop-i
invariant-loop-i l = record {
  count : length l.sums ≡ terms;
  sums : (j : ℕ) → j < l.i → get_or l.sums j (pos 0) ≡ floor_div (get_or l.a j (pos 0)) (2 ^ l.k) +ℤ get_or l.b j (pos 0);
}
