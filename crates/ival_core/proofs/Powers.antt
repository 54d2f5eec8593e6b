-- Mantissas at an exponent, and powers of ten.
use Rattle.std.proofs.Common.{◌≡◌, ℕ, zero, suc, ◌*◌, ◌^◌, ◌<◌, ◌≤◌, arith, refl, ap, ◌∙◌, ℤ, pos, neg_ℤ, ◌*ℤ◌, unsigned_abs, w64, FitsSigned, min, ◌⊎◌, inl, inr}
use Rattle.std.proofs.lemmas.Int.{ints, unsigned_abs-mul, fits_signed_from_abs}
use Rattle.std.proofs.lemmas.Nat.{mul-le}
use Rattle.std.proofs.Math.Nat.{pow-le-pow_right, one-le-pow}
use Rattle.std.proofs.lemmas.Bool.{cases_lt}
use mir.Syntax.{w128}
use Rattle.spec_numbers.specs.Numbers.{floor_div, ceil_div}
use Rattle.spec_numbers.proofs.Floor.{floor_div-past}
use Rattle.spec_numbers.proofs.Sizes.{unsigned_abs-neg}

-- a mantissa of 64 bits at an exponent
pub mant_wide : (z : ℤ) → FitsSigned w64 z → FitsSigned w128 z
mant_wide z h = omega (arith, ints)

pub mant_size : (z : ℤ) → FitsSigned w64 z → unsigned_abs z ≤ 2 ^ 63
mant_size z h = omega (arith, ints)

pub mant_bound : (z : ℤ) (k : ℕ) → FitsSigned w64 z → k ≤ 60 → unsigned_abs (z *ℤ pos (2 ^ k)) ≤ 2 ^ 123
mant_bound z k h p =
    let b : 2 ^ k ≤ 2 ^ 60 = pow-le-pow_right (omega arith) p in
    rw (unsigned_abs-mul z (pos (2 ^ k))) (mul-le (unsigned_abs z) (2 ^ k) (2 ^ 63) (2 ^ 60) (mant_size z h) b)

pub mant_fits : (z : ℤ) (k : ℕ) → FitsSigned w64 z → k ≤ 60 → FitsSigned w128 (z *ℤ pos (2 ^ k))
mant_fits z k h p = let b : unsigned_abs (z *ℤ pos (2 ^ k)) ≤ 2 ^ 123 = mant_bound z k h p in fits_signed_from_abs w128 (z *ℤ pos (2 ^ k)) (omega arith)

-- powers of ten within 128 bits
pub ten_pos : (n : ℕ) → 1 ≤ 10 ^ n
ten_pos n = one-le-pow n 10 (omega arith)

pub ten_bound : (n : ℕ) → n ≤ 38 → 10 ^ n ≤ 10 ^ 38
ten_bound n h = pow-le-pow_right (omega arith) h

pub ten_above : (n : ℕ) → 38 ≤ n → 10 ^ 38 ≤ 10 ^ n
ten_above n h = pow-le-pow_right (omega arith) h

-- past 10^38 a number of 123 bits is divided to 0 or -1
pub tenths_capped : (z : ℤ) (n m : ℕ) → unsigned_abs z ≤ 2 ^ 123 → m ≡ min n 38 → floor_div z (10 ^ m) ≡ floor_div z (10 ^ n)
tenths_capped z n m h e = by (cases_lt n 38)
  where
    by : (n < 38) ⊎ (38 ≤ n) → floor_div z (10 ^ m) ≡ floor_div z (10 ^ n)
    by (inl r) = let f : m ≡ n = omega arith in ap (λ k. floor_div z (10 ^ k)) f
    by (inr r) =
        let f : m ≡ 38 = omega arith in
        let p = ten_above n r in
        ap (λ k. floor_div z (10 ^ k)) f ∙ floor_div-past z (10 ^ 38) (10 ^ n) (omega arith) (omega arith)

-- a whole number that is at most 2^60 times 10^n is 0, or n is at most 18
ten_large : (n : ℕ) → 18 < n → 10 ^ 19 ≤ 10 ^ n
ten_large n h = let g : 19 ≤ n = omega arith in pow-le-pow_right (omega arith) g

zero_from : (a p : ℕ) → a * p ≤ 2 ^ 60 → 10 ^ 19 ≤ p → a ≡ 0
zero_from zero p h q = refl
zero_from (suc a) p h q = absurd (grind arith)

pub times_capped : (z : ℤ) (n m : ℕ) → m ≡ min n 18 → unsigned_abs z * 10 ^ n ≤ 2 ^ 60 → z *ℤ pos (10 ^ m) ≡ z *ℤ pos (10 ^ n)
times_capped z n m e h = by (cases_lt 18 n)
  where
    zero_is : (w : ℤ) → unsigned_abs w ≡ 0 → w ≡ pos 0
    zero_is w h = omega (arith, ints)

    by : (18 < n) ⊎ (n ≤ 18) → z *ℤ pos (10 ^ m) ≡ z *ℤ pos (10 ^ n)
    by (inl r) =
        let a : unsigned_abs z ≡ 0 = zero_from (unsigned_abs z) (10 ^ n) h (ten_large n r) in
        let b : z ≡ pos 0 = zero_is z a in
        rw b (omega (arith, ints))
    by (inr r) = let f : m ≡ n = omega arith in ap (λ k. z *ℤ pos (10 ^ k)) f

pub times_fits : (z : ℤ) (n m : ℕ) → m ≡ min n 18 → unsigned_abs z * 10 ^ n ≤ 2 ^ 60 → FitsSigned w128 (z *ℤ pos (10 ^ m))
times_fits z n m e h =
    let f : unsigned_abs (z *ℤ pos (10 ^ n)) ≡ unsigned_abs z * 10 ^ n = unsigned_abs-mul z (pos (10 ^ n)) in
    rw (times_capped z n m e h) (fits_signed_from_abs w128 (z *ℤ pos (10 ^ n)) (omega arith))

-- the power as the code widens it
pub ten_wide : (m : ℕ) → m ≤ 18 → 10 ^ m < 2 ^ 127
ten_wide m h = let p : 10 ^ m ≤ 10 ^ 38 = ten_bound m (omega arith) in omega arith

pub ceil_capped : (z : ℤ) (n m : ℕ) → unsigned_abs z ≤ 2 ^ 123 → m ≡ min n 38 → ceil_div z (10 ^ m) ≡ ceil_div z (10 ^ n)
ceil_capped z n m h e = ap neg_ℤ (tenths_capped (neg_ℤ z) n m (rw unsigned_abs-neg h) e)
