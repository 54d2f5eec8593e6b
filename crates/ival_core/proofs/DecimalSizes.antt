-- A decimal is compared with a limit, with its power of ten capped.
use Rattle.std.proofs.Common.{◌≡◌, ℕ, zero, suc, ◌*◌, ◌^◌, ◌<◌, ◌≤◌, ◌↔◌, min, lit<, arith, inl, inr, pos, negsuc, ℤ, unsigned_abs, IsTrue, nat_lt, nat_le}
use Rattle.std.proofs.lemmas.Bool.Decides.{nat_tests}
use Rattle.std.proofs.lemmas.Bool.{cases_lt}
use Rattle.std.proofs.Math.Nat.{pow-le-pow_right}
use borrow.Author.Differences.{up, down}
use Rattle.spec_intervals.specs.Interval.{IsDistance, IsCosine}

-- a test that a power of ten from 10^19 on answers as 10^19 does answers the same with the exponent capped
capped : (P : ℕ → Type 0) (n : ℕ) → ((power : ℕ) → 10 ^ 19 ≤ power → P (10 ^ 19) ↔ P power) → P (10 ^ min n 19) ↔ P (10 ^ n)
capped P n far = elim (cases_lt n 19) [
  | inl near ↦ let same : min n 19 ≡ n = omega arith in rw same (λ h. h, λ h. h)
  | inr past ↦ let same : min n 19 ≡ 19 = omega arith in rw same (far (10 ^ n) (pow-le-pow_right {n = 10} (lit< tt) past))
]

-- below 2^36, where the power multiplies and where it divides
up_below : (size power : ℕ) → 10 ^ 19 ≤ power → (size * 10 ^ 19 < 2 ^ 36 * 1) ↔ (size * power < 2 ^ 36 * 1)
up_below zero power far = (λ h. omega arith, λ h. omega arith)
up_below (suc n) power far = (λ h. absurd (omega arith), λ h. absurd (omega arith))

down_below : (size power : ℕ) → size ≤ 2 ^ 63 → 10 ^ 19 ≤ power → (size * 1 < 2 ^ 36 * 10 ^ 19) ↔ (size * 1 < 2 ^ 36 * power)
down_below size power small far = (λ h. omega arith, λ h. omega arith)

pub distance-capped : (mant exp : ℤ) → unsigned_abs mant ≤ 2 ^ 63 → (unsigned_abs mant * 10 ^ min (up exp) 19 < 2 ^ 36 * 10 ^ min (down exp) 19) ↔ IsDistance mant exp
distance-capped mant (pos n) small = capped (λ p. unsigned_abs mant * p < 2 ^ 36 * 1) n (λ power far. up_below (unsigned_abs mant) power far)
distance-capped mant (negsuc n) small = capped (λ p. unsigned_abs mant * 1 < 2 ^ 36 * p) (suc n) (λ power far. down_below (unsigned_abs mant) power small far)

-- at most 1
up_most : (size power : ℕ) → 10 ^ 19 ≤ power → (size * 10 ^ 19 ≤ 1) ↔ (size * power ≤ 1)
up_most zero power far = (λ h. omega arith, λ h. omega arith)
up_most (suc n) power far = (λ h. absurd (omega arith), λ h. absurd (omega arith))

down_most : (size power : ℕ) → size ≤ 2 ^ 63 → 10 ^ 19 ≤ power → (size * 1 ≤ 10 ^ 19) ↔ (size * 1 ≤ power)
down_most size power small far = (λ h. omega arith, λ h. omega arith)

pub cosine-capped : (mant exp : ℤ) → unsigned_abs mant ≤ 2 ^ 63 → (unsigned_abs mant * 10 ^ min (up exp) 19 ≤ 10 ^ min (down exp) 19) ↔ IsCosine mant exp
cosine-capped mant (pos n) small = capped (λ p. unsigned_abs mant * p ≤ 1) n (λ power far. up_most (unsigned_abs mant) power far)
cosine-capped mant (negsuc n) small = capped (λ p. unsigned_abs mant * 1 ≤ p) (suc n) (λ power far. down_most (unsigned_abs mant) power small far)

-- the code's tests
pub tested_lt : (a b x y : ℕ) (P : Type 0) → a ≡ x → b ≡ y → (x < y) ↔ P → IsTrue (nat_lt a b) ↔ P
tested_lt a b x y P left right known = (
  λ test. let less : a < b = grind (arith, nat_tests) in known.0 (omega (arith, less)),
  λ holds. let less : a < b = omega (arith, known.1 holds) in grind (arith, nat_tests),
)

pub tested_le : (a b x y : ℕ) (P : Type 0) → a ≡ x → b ≡ y → (x ≤ y) ↔ P → IsTrue (nat_le a b) ↔ P
tested_le a b x y P left right known = (
  λ test. let most : a ≤ b = grind (arith, nat_tests) in known.0 (omega (arith, most)),
  λ holds. let most : a ≤ b = omega (arith, known.1 holds) in grind (arith, nat_tests),
)
