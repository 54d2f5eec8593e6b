-- What the steps at one exponent come to, as the rules state it.
use Rattle.std.proofs.Common.{◌≡◌, ℕ, ◌^◌, ◌<◌, refl, ℤ, pos, negsuc, ◌+ℤ◌, ◌*ℤ◌, ◌≤ℤ◌, unsigned_abs, arith, FitsSigned, to_z, of_z, w32, ◌∙◌}
use mir.Syntax.{w128}
use Rattle.std.specs.Int.{int_min, int_max}
use Rattle.std.proofs.lemmas.Int.{ints, to_z-of_z}
use Rattle.spec_intervals.specs.Interval.{Interval, narrow, scale, signed_sq, signed_square, aligned_lower, aligned_upper}
use Rattle.ival_core.specs.declared.ival.Aligned.{Aligned}
use Rattle.ival_core.specs.Aligned.{IsAligned}
use Rattle.ival_core.proofs.Passing.{made_of}
use mir.Val.{SFits}
use Rattle.spec_numbers.specs.Numbers.{floor_div, ceil_div}

-- what a step makes of the ends at one exponent, as the code passes them on
module _ (low high : ℤ → ℤ → ℤ) (x y : Interval) (at : Aligned) (k : IsAligned x y at) (lo hi : ℤ) (f : SFits w128 lo) (g : SFits w128 hi) (p : lo ≡ low (to_z w128 (of_z w128 at.lower_lo)) (to_z w128 (of_z w128 at.upper_lo))) (q : hi ≡ high (to_z w128 (of_z w128 at.lower_hi)) (to_z w128 (of_z w128 at.upper_hi))) where
  pub low_from : to_z w128 (of_z w128 lo) ≡ low at.lower_lo at.upper_lo
  low_from = let b = k.lower_lo_small in let d = k.upper_lo_bound in made_of low _ _ _ (omega (arith, ints)) (omega (arith, ints)) f p

  pub high_from : to_z w128 (of_z w128 hi) ≡ high at.lower_hi at.upper_hi
  high_from = let b = k.lower_hi_small in let d = k.upper_hi_bound in made_of high _ _ _ (omega (arith, ints)) (omega (arith, ints)) g q

  exponent_from : to_z w32 (of_z w32 at.s) ≡ (aligned_lower x y).s
  exponent_from = let b = k.exponent_bound in to_z-of_z w32 at.s (omega (arith, ints)) ∙ k.exponent

  pub step-is : narrow (to_z w128 (of_z w128 lo)) (to_z w128 (of_z w128 hi)) (to_z w32 (of_z w32 at.s)) ≡ narrow (low (aligned_lower x y).lo (aligned_upper x y).lo) (high (aligned_lower x y).hi (aligned_upper x y).hi) (aligned_lower x y).s
  step-is = λ i. narrow ((low_from ∙ λ j. low (k.lower_lo j) (k.upper_lo j)) i) ((high_from ∙ λ j. high (k.lower_hi j) (k.upper_hi j)) i) (exponent_from i)

  pub step-ordered : low at.lower_lo at.upper_lo ≤ℤ high at.lower_hi at.upper_hi → to_z w128 (of_z w128 lo) ≤ℤ to_z w128 (of_z w128 hi)
  step-ordered o = rw (low_from, high_from) o

pub min_to_max : (a b c d : ℤ) → a ≤ℤ c → int_min a b ≤ℤ int_max c d
min_to_max a b c d h = grind (arith, ints)

pub scale-is : (lo hi s : ℤ) (n : ℕ) (a b : ℤ) → a ≡ floor_div (pos 2 *ℤ lo) n → b ≡ ceil_div (pos 2 *ℤ hi) n → narrow a b s ≡ scale lo hi s n
unfolding scale
scale-is lo hi s n a b p q = rw (p, q) refl

pub signed_square-is : (x : Interval) (lo hi s : ℤ) → lo ≡ signed_sq x.lo → hi ≡ signed_sq x.hi → s ≡ x.s +ℤ x.s → narrow lo hi s ≡ signed_square x
unfolding signed_square
signed_square-is x lo hi s p q e = rw (p, q, e) refl

pub doubled_fits : (z : ℤ) → unsigned_abs z < 2 ^ 126 → FitsSigned w128 (pos 2 *ℤ z)
doubled_fits (pos n) h = omega (arith, ints)
doubled_fits (negsuc n) h = omega (arith, ints)
