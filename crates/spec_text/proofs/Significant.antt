-- How many digits a number has, and how large it is.
use Rattle.std.proofs.Common.{◌≡◌, ℕ, ◌+◌, ◌-◌, ◌*◌, ◌^◌, ◌<◌, ◌≤◌, List, [], ◌∷◌, length, eq-eqb, ne_eqb, refl, sym, ap, subst, inl, inr, arith, lit<}
use Rattle.std.proofs.lemmas.Bool.{cases_eq}
use Rattle.std.proofs.Math.Nat.{pow-succ', pow-le-pow_right, mul-le-mul_left}
use Rattle.spec_text.specs.Decimals.{AreDigits, significant, value_after, value}

-- digits after n make a number of its size
pub value_after_low : (n : ℕ) (bs : List ℕ) → n * 10 ^ length bs ≤ value_after n bs
value_after_low n [] = omega arith
value_after_low n (b ∷ bs) = rw pow-succ' (omega (arith, value_after_low (10 * n + (b - 48)) bs))

pub value_after_high : (n : ℕ) (bs : List ℕ) → AreDigits bs → value_after n bs < (n + 1) * 10 ^ length bs
value_after_high n [] are = omega arith
value_after_high n (b ∷ bs) are =
    let digit : b - 48 ≤ 9 = omega (arith, are.0.1) in
    rw pow-succ' (omega (arith, value_after_high (10 * n + (b - 48)) bs are.1, mul-le-mul_left (10 ^ length bs) digit))

-- zeros at the front change neither the digits that count nor the number
by_first_digit : (P : ℕ → ℕ → Type 0) → P 0 0
    → ((b : ℕ) (bs : List ℕ) → AreDigits (b ∷ bs) → 1 ≤ b - 48 → P (length (b ∷ bs)) (value_after (0 + (b - 48)) bs))
    → (bs : List ℕ) → AreDigits bs → P (length (significant bs)) (value bs)
by_first_digit P none some [] are = none
by_first_digit P none some (b ∷ bs) are = elim (cases_eq b 48) [
  | inl zero_first ↦
      let skipped : significant (b ∷ bs) ≡ significant bs = rw (eq-eqb b 48 zero_first) refl in
      let same : value (b ∷ bs) ≡ value bs = ap (λ (k : ℕ). value_after (0 + (k - 48)) bs) zero_first in
      subst (λ n. P n (value (b ∷ bs))) (ap length (sym skipped))
      (subst (P (length (significant bs))) (sym same) (by_first_digit P none some bs are.1))
  | inr other ↦
      let kept : significant (b ∷ bs) ≡ b ∷ bs = rw (ne_eqb b 48 other) refl in
      subst (λ n. P n (value (b ∷ bs))) (ap length (sym kept)) (some b bs are (omega (arith, are.0.0)))
]

-- ten to the 18 or more is written by more than 18 digits, and no less is
pub many_digits : (bs : List ℕ) → AreDigits bs → 18 < length (significant bs) → 10 ^ 18 ≤ value bs
many_digits = by_first_digit (λ n v. 18 < n → 10 ^ 18 ≤ v) (λ many. absurd (omega arith)) more
  where
    more : (b : ℕ) (bs : List ℕ) → AreDigits (b ∷ bs) → 1 ≤ b - 48 → 18 < length (b ∷ bs) → 10 ^ 18 ≤ value_after (0 + (b - 48)) bs
    more b bs are digit many =
        let rest : 18 ≤ length bs = omega arith in
        omega (arith, value_after_low (0 + (b - 48)) bs, mul-le-mul_left (10 ^ length bs) digit, pow-le-pow_right {n = 10} (lit< tt) rest)

pub few_digits : (bs : List ℕ) → AreDigits bs → length (significant bs) ≤ 18 → value bs < 10 ^ 18
few_digits = by_first_digit (λ n v. n ≤ 18 → v < 10 ^ 18) (λ few. lit< tt) less
  where
    less : (b : ℕ) (bs : List ℕ) → AreDigits (b ∷ bs) → 1 ≤ b - 48 → length (b ∷ bs) ≤ 18 → value_after (0 + (b - 48)) bs < 10 ^ 18
    less b bs are one few =
        let digit : b - 48 ≤ 9 = omega (arith, are.0.1) in
        let rest : length bs ≤ 17 = omega arith in
        omega (arith, value_after_high (0 + (b - 48)) bs are.1, mul-le-mul_left (10 ^ length bs) digit, pow-le-pow_right {n = 10} (lit< tt) rest)
