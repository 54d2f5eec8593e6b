-- What is read of the parts of a numeral is what the numeral reads as.
use Rattle.std.proofs.Common.{◌≡◌, ℕ, ◌^◌, ◌<◌, ◌≤◌, ◌≢◌, true, false, Option, None, Some, Ok, Err, ℤ, pos, neg_ℤ, ◌-ℤ◌, if◌then◌else◌, length, eq-eqb, ne_eqb, nat_lt, refl, ap, ◌∙◌, inl, inr, arith}
use Rattle.std.proofs.lemmas.Bool.{cases_lt, lt-ltb, le-ltb}
use Rattle.spec_text.specs.declared.decimals.NumberFault.TheVariants.{TooManyDigits, ExponentRange}
use Rattle.spec_text.specs.Decimals.{Sign, unsigned, plus, minus, Exponent, Numeral, AreDigits, after_point, digits, exponent_size, significant, value}
use Rattle.spec_text.specs.Reading.{signed, exponent_value, reading_of}
use Rattle.spec_text.proofs.Significant.{many_digits, few_digits}
use Rattle.de_text.specs.declared.parts.Parts.{Parts}
use Rattle.de_text.specs.Parts.{is_minus, exponent_is_minus, Shows}

signed_is : (sign : Sign) (n : ℕ) → (if is_minus sign then neg_ℤ (pos n) else pos n) ≡ signed sign n
signed_is unsigned n = refl
signed_is plus n = refl
signed_is minus n = refl

exponent_is : (e : Option Exponent) → (if exponent_is_minus e then neg_ℤ (pos (exponent_size e)) else pos (exponent_size e)) ≡ exponent_value e
exponent_is None = refl
exponent_is (Some e) = signed_is e.sign (value e.digits)

module _ (n : Numeral) (parts : Parts) (are : AreDigits (digits n)) (shows : Shows n parts) where
  pub read_many : 10 ^ 18 ≤ parts.mantissa → Err TooManyDigits ≡ reading_of (Some n)
  read_many large = elim (cases_lt 18 (length (significant (digits n)))) [
    | inl many ↦ rw (lt-ltb 18 (length (significant (digits n))) many) refl
    | inr few ↦ absurd (omega (arith, few_digits (digits n) are few, shows.mantissa))
  ]

  module _ (small : parts.mantissa < 10 ^ 18) where
    few_test : nat_lt 18 (length (significant (digits n))) ≡ false
    few_test = elim (cases_lt 18 (length (significant (digits n)))) [
      | inl many ↦ absurd (omega (arith, many_digits (digits n) are many, shows.mantissa))
      | inr few ↦ le-ltb 18 (length (significant (digits n))) few
    ]

    pub read_far : 99 < parts.exponent → Err ExponentRange ≡ reading_of (Some n)
    read_far far =
        let test : nat_lt 99 (exponent_size n.exponent) ≡ true = lt-ltb 99 (exponent_size n.exponent) (omega (arith, shows.exponent)) in
        rw (few_test, test) refl

    module _ (near : parts.exponent ≤ 99) where
      near_test : nat_lt 99 (exponent_size n.exponent) ≡ false
      near_test = le-ltb 99 (exponent_size n.exponent) (omega (arith, shows.exponent))

      pub read_zero : parts.mantissa ≡ 0 → Ok (record { mant = pos 0; exp = pos 0 }) ≡ reading_of (Some n)
      read_zero zero_is =
          let none : value (digits n) ≡ 0 = omega (arith, shows.mantissa) in
          rw (few_test, near_test, eq-eqb (value (digits n)) 0 none) refl

      pub read_some : (mant exp : ℤ) → parts.mantissa ≢ 0 → mant ≡ (if parts.negative then neg_ℤ (pos parts.mantissa) else pos parts.mantissa)
          → exp ≡ (if parts.exponent_negative then neg_ℤ (pos parts.exponent) else pos parts.exponent) -ℤ pos parts.places
          → Ok (record { mant = mant; exp = exp }) ≡ reading_of (Some n)
      read_some mant exp some mant_is exp_is =
          let same_m : parts.mantissa ≡ value (digits n) = omega (arith, shows.mantissa) in
          let same_x : parts.exponent ≡ exponent_size n.exponent = omega (arith, shows.exponent) in
          let some_value : value (digits n) ≢ 0 = λ e. some (same_m ∙ e) in
          let mant_path : mant ≡ signed n.sign (value (digits n)) =
          mant_is ∙ (λ i. if shows.negative i then neg_ℤ (pos (same_m i)) else pos (same_m i)) ∙ signed_is n.sign (value (digits n)) in
          let exp_path : exp ≡ exponent_value n.exponent -ℤ pos (length (after_point n.fraction)) =
          exp_is
          ∙ (λ i. (if shows.exponent_negative i then neg_ℤ (pos (same_x i)) else pos (same_x i)) -ℤ pos (shows.places i))
          ∙ ap (λ (z : ℤ). z -ℤ pos (length (after_point n.fraction))) (exponent_is n.exponent) in
          rw (few_test, near_test, ne_eqb (value (digits n)) 0 some_value) (λ i. Ok (record { mant = mant_path i; exp = exp_path i }))
