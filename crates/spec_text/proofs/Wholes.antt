-- Words of 1 to 9 digits.
use Rattle.std.proofs.Common.{◌≡◌, ℕ, ◌^◌, ◌<◌, ◌≤◌, ◌&&◌, min, true, List, [], ◌∷◌, Some, length, nat_lt, nat_le, ap, inl, inr, arith, lit<}
use Rattle.std.specs.Char.{is_ascii_digit}
use Rattle.std.specs.List.{list_all}
use Rattle.std.proofs.lemmas.Bool.{cases_Bool, lt-ltb}
use Rattle.std.proofs.lemmas.Bool.Decides.{nat_tests}
use Rattle.std.proofs.Math.Nat.{pow-le-pow_right}
use Rattle.spec_text.specs.Decimals.{AreDigits, value}
use Rattle.spec_text.specs.Reading.{whole_of}
use Rattle.spec_text.proofs.Sound.{is_digit}
use Rattle.spec_text.proofs.Significant.{value_after_high}

pub all_digits : (word : List ℕ) → list_all is_ascii_digit word ≡ true → AreDigits word
all_digits [] all = tt
all_digits (b ∷ bs) all = (is_digit b (grind (arith, nat_tests)), all_digits bs (grind (arith, nat_tests)))

pub value_small : (word : List ℕ) → AreDigits word → length word ≤ 9 → value word < 10 ^ 9
value_small word are short = omega (arith, value_after_high 0 word are, pow-le-pow_right {n = 10} (lit< tt) short)

-- a number that is capped above all that the word can be
pub whole_is : (word : List ℕ) (capped : ℕ) → list_all is_ascii_digit word ≡ true → 0 < length word → length word ≤ 9
    → capped ≡ min (value word) (10 ^ 18) → Some capped ≡ whole_of word
whole_is word capped all some short is =
    let small = value_small word (all_digits word all) short in
    let same : capped ≡ value word = omega (arith, is, small) in
    let within : nat_le (length word) 9 ≡ true = grind (arith, nat_tests) in
    rw (all, lt-ltb 0 (length word) some, within) (ap (λ (n : ℕ). Some n) same)

pub whole_bound : (word : List ℕ) (n : ℕ) → whole_of word ≡ Some n → n < 10 ^ 9
whole_bound word n is = elim (cases_Bool (list_all is_ascii_digit word && (nat_lt 0 (length word) && nat_le (length word) 9))) [
  | inl one ↦
      let got = rw one at is in
      let same : value word ≡ n = cc in
      let all : list_all is_ascii_digit word ≡ true = grind (arith, nat_tests) in
      let short : length word ≤ 9 = grind (arith, nat_tests) in
      omega (arith, same, value_small word (all_digits word all) short)
  | inr none ↦ let got = rw none at is in absurd (cc)
]
