-- Digits as they are printed, and the number that they write.
use Rattle.std.proofs.Common.{◌≡◌, ℕ, ◌+◌, ◌/◌, ◌%◌, ◌<◌, ◌≤◌, List, [], ◌∷◌, ◌++◌, length, ap, ◌∙◌, arith, lit<}
use Rattle.std.proofs.lemmas.Fmt.{decimal_digit, decimal_step}
use Rattle.std.proofs.Math.Nat.{pow-le-pow_right}
use Rattle.std.specs.Fmt.{decimal}
use Rattle.spec_text.proofs.Values.{IsValue}
use Rattle.spec_times.specs.Calendar.{digits}

pub one_digit : (n : ℕ) → n < 10 → ◌≡◌ {A = List ℕ} (48 ∷ decimal n) (digits 2 n)
one_digit n h =
    let first : 48 ≡ 48 + n / 10 % 10 = omega arith in
    let last : 48 + n ≡ 48 + n % 10 = omega arith in
    rw (decimal_digit n h) (λ i. first i ∷ last i ∷ [])

pub two_digits : (n : ℕ) → 10 ≤ n → n < 100 → decimal n ≡ digits 2 n
two_digits n low high =
    let first : 48 + n / 10 ≡ 48 + n / 10 % 10 = omega arith in
    decimal_step n low (omega arith) ∙ rw (decimal_digit (n / 10) (omega arith)) (λ i. first i ∷ (48 + n % 10) ∷ [])

pub one_of_three : (n : ℕ) → n < 10 → ◌≡◌ {A = List ℕ} (48 ∷ 48 ∷ decimal n) (digits 3 n)
one_of_three n h =
    let first : 48 ≡ 48 + n / 10 / 10 % 10 = omega arith in
    let second : 48 ≡ 48 + n / 10 % 10 = omega arith in
    let last : 48 + n ≡ 48 + n % 10 = omega arith in
    rw (decimal_digit n h) (λ i. first i ∷ second i ∷ last i ∷ [])

pub two_of_three : (n : ℕ) → 10 ≤ n → n < 100 → ◌≡◌ {A = List ℕ} (48 ∷ decimal n) (digits 3 n)
two_of_three n low high =
    let first : 48 ≡ 48 + n / 10 / 10 % 10 = omega arith in
    rw (two_digits n low high) (λ i. first i ∷ (48 + n / 10 % 10) ∷ (48 + n % 10) ∷ [])

pub three_digits : (n : ℕ) → 100 ≤ n → n < 1000 → decimal n ≡ digits 3 n
three_digits n low high =
    decimal_step n (omega arith) (omega arith) ∙ ap (λ (xs : List ℕ). xs ++ (48 + n % 10) ∷ []) (two_digits (n / 10) (omega arith) (omega arith))

-- ---- the number that digits write

-- twelve digits and a further step fit 64 bits
pub value_room : (word : List ℕ) (i n : ℕ) → i < length word → length word ≤ 12 → IsValue word i n → n < 2300000000000
value_room word i n h short is = omega (arith, is.bound, pow-le-pow_right {n = 10} (lit< tt) {i = i} {j = 11} (omega arith))

pub value_small : (word : List ℕ) (i n : ℕ) → i ≤ length word → length word ≤ 12 → IsValue word i n → n < 100000000000000
value_small word i n h short is = omega (arith, is.bound, pow-le-pow_right {n = 10} (lit< tt) {i = i} {j = 12} (omega arith))
