use Rattle.std.proofs.Common.{◌≡◌, ℕ, ◌^◌, ◌<◌, ◌≤◌, length, get_or, pos, unsigned_abs}
use Rattle.spec_numbers.specs.Numbers.{floor_div}
use Rattle.span_models.specs.Sizes.{terms, settled_limit}
use Rattle.span_models.proofs.settling.rounded_coefficients.Given as goal

abbrev pub invariant-loop-i : goal.invariant-loop-i
invariant-loop-i l = record {
  count : length l.halves ≡ terms;
  halves : (k : ℕ) → k < l.i → get_or l.halves k (pos 0) ≡ floor_div (get_or l.wide k (pos 0)) (2 ^ l.k);
  small : (k : ℕ) → k < l.i → unsigned_abs (get_or l.halves k (pos 0)) ≤ settled_limit;
}
