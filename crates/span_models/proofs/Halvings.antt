-- How often a number is halved, and what is left of it.
use Rattle.std.proofs.Common.{◌≡◌, ◌∙◌, ℕ, zero, suc, ◌+◌, ◌-◌, ◌*◌, ◌/◌, ◌^◌, ◌<◌, ◌≤◌, ◌⊎◌, inl, inr, min, arith, refl, ap, ℤ, pos, ◌+ℤ◌, unsigned_abs, to_z, of_z, w64}
use Rattle.std.proofs.lemmas.Int.{ints, to_z-of_z, fits_signed_from_abs}
use Rattle.std.proofs.lemmas.Bool.{cases_lt}
use Rattle.std.proofs.lemmas.Nat.{pow-add, pow_pos}
use Rattle.std.proofs.Math.Nat.{pow-le-pow_right}
use mir.Syntax.{w128}
use mir.Val.{SFits}
use Rattle.spec_numbers.specs.Numbers.{floor_div}
use Rattle.spec_numbers.proofs.Floor.{floor_div-small, capped_shift}
use Rattle.spec_numbers.proofs.Sizes.{sum_size}
use Rattle.span_models.specs.Sizes.{settled_limit, terms}
use Rattle.span_models.specs.Settled.{raised_error}

-- the leading bit of a size that is not below the limit
pub lead : (size r : ℕ) → 2 ^ 59 ≤ size → size < 2 * 2 ^ r → 59 ≤ r
lead size r h q = by (cases_lt r 59)
  where
    by : (r < 59) ⊎ (59 ≤ r) → 59 ≤ r
    by (inl s) = let w : r ≤ 58 = omega arith in let p : 2 ^ r ≤ 2 ^ 58 = pow-le-pow_right (omega arith) w in absurd (omega arith)
    by (inr s) = s

pub enough : (size r : ℕ) → 59 ≤ r → size < 2 * 2 ^ r → size < settled_limit * 2 ^ (r - 58)
enough size r h q =
    let e : r ≡ 58 + (r - 58) = omega arith in
    let f : 2 ^ r ≡ 2 ^ 58 * 2 ^ (r - 58) = ap (λ n. 2 ^ n) e ∙ pow-add 2 58 (r - 58) in
    omega arith

-- a number that is halved often enough
module _ (z : ℤ) (k : ℕ) (small : unsigned_abs z ≤ settled_limit * 2 ^ k) where
  pub left : unsigned_abs (floor_div z (2 ^ k)) ≤ settled_limit
  left = floor_div-small z (2 ^ k) settled_limit (pow_pos k) small

  pub left_kept : to_z w64 (of_z w64 (to_z w128 (of_z w128 (floor_div z (2 ^ k))))) ≡ floor_div z (2 ^ k)
  left_kept = let b = left in omega (arith, ints, b)

-- ---- a shift by a large count, capped
pub capped_division : (e k m : ℕ) → e ≤ 2 ^ 62 → m ≡ min k 63 → e / 2 ^ m ≡ e / 2 ^ k
capped_division e k m h is = ap unsigned_abs (capped_shift (pos e) k m h is)

pub two_kept : (f b : ℤ) → unsigned_abs f ≤ 2 ^ 60 → unsigned_abs b ≤ 2 ^ 60 → to_z w128 (of_z w128 (to_z w64 (of_z w64 (to_z w64 (of_z w64 f) +ℤ to_z w64 (of_z w64 b))))) ≡ f +ℤ b
two_kept f b p q = omega (arith, ints)

pub two_fit : (f b : ℤ) → unsigned_abs f ≤ 2 ^ 60 → unsigned_abs b ≤ 2 ^ 60 → SFits w64 (to_z w64 (of_z w64 f) +ℤ to_z w64 (of_z w64 b))
two_fit f b p q = omega (arith, ints)

pub two_wide : (f b : ℤ) → unsigned_abs f ≤ 2 ^ 60 → unsigned_abs b ≤ 2 ^ 60 → SFits w128 (to_z w64 (of_z w64 (to_z w64 (of_z w64 f) +ℤ to_z w64 (of_z w64 b))))
two_wide f b p q =
    let s = sum_size f b (2 ^ 60) (2 ^ 60) p q in
    let narrow : SFits w64 (f +ℤ b) = fits_signed_from_abs w64 (f +ℤ b) (omega (arith, s)) in
    rw (to_z-of_z w64 f (fits_signed_from_abs w64 f (omega (arith, p))), to_z-of_z w64 b (fits_signed_from_abs w64 b (omega (arith, q))), to_z-of_z w64 (f +ℤ b) narrow) (fits_signed_from_abs w128 (f +ℤ b) (omega (arith, s)))

pub coarser_error_is : (e k m : ℕ) → e ≤ 2 ^ 60 → m ≡ min k 63 → (k ≡ 0 → ⊥) → e / 2 ^ m + suc terms ≡ raised_error k e
coarser_error_is e zero m h is n = absurd (n refl)
coarser_error_is e (suc k) m h is n = ap (λ x. x + suc terms) (capped_division e (suc k) m (omega (arith, h)) is)
