-- What the parts of a word have to do with the numeral that it is.
use Rattle.std.specs.Prelude.{◌≡◌, ℕ, ◌<◌, ◌≤◌, ◌^◌, min, Bool, true, false, List, length, Option, None, Some}
use Rattle.spec_text.specs.declared.limits.TheConstants.{MAX_EXPONENT, MAX_WORD_BYTES}
use Rattle.spec_text.specs.Splitting.{fraction_at}
use Rattle.spec_text.specs.Decimals.{Sign, minus, Exponent, Numeral, after_point, digits, exponent_size, value}
use Rattle.de_text.specs.declared.parts.Parts.{Parts}

-- the digits after a point at the front of a text
abbrev pub fraction_digits : List ℕ → List ℕ
fraction_digits text = after_point (fraction_at text).0

abbrev pub is_minus : Sign → Bool
is_minus minus = true
is_minus sign = false

abbrev pub exponent_is_minus : Option Exponent → Bool
exponent_is_minus None = false
exponent_is_minus (Some e) = is_minus e.sign

-- the sign and the size of the exponent, a plain 0 where it is left out; a greater size counts as ten to the 18
abbrev pub ShowsExponent : Option (Option Exponent) → Option (Bool × ℕ) → Type 0
ShowsExponent None None = Unit {0}
ShowsExponent None (Some parts) = ⊥
ShowsExponent (Some e) None = ⊥
ShowsExponent (Some e) (Some parts) = (parts.0 ≡ exponent_is_minus e) × (parts.1 ≡ min (exponent_size e) (10 ^ 18))

-- the parts are those of the numeral; a number of ten to the 18 stands for all from there on
pub record Shows (n : Numeral) (parts : Parts) : Type 0 where
  pub negative : parts.negative ≡ is_minus n.sign
  pub mantissa : parts.mantissa ≡ min (value (digits n)) (10 ^ 18)
  pub places : parts.places ≡ length (after_point n.fraction)
  pub exponent_negative : parts.exponent_negative ≡ exponent_is_minus n.exponent
  pub exponent : parts.exponent ≡ min (exponent_size n.exponent) (10 ^ 18)

abbrev pub Splits : Option Numeral → Option Parts → Type 0
Splits None None = Unit {0}
Splits None (Some parts) = ⊥
Splits (Some n) None = ⊥
Splits (Some n) (Some parts) = Shows n parts

-- the parts are of a word that is not too long
pub record IsOfShortWord (parts : Parts) : Type 0 where
  pub mantissa : parts.mantissa ≤ 10 ^ 18
  pub places : parts.places ≤ MAX_WORD_BYTES
  pub exponent : parts.exponent ≤ 10 ^ 18

-- the parts are within the limits of a decimal
pub record IsNear (parts : Parts) : Type 0 where
  pub mantissa : parts.mantissa < 10 ^ 18
  pub exponent : parts.exponent ≤ MAX_EXPONENT
