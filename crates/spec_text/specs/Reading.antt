-- What a word stands for: a decimal or its fault, and a whole number.
use Rattle.std.specs.Prelude.{◌≡◌, ℕ, ◌^◌, ◌<◌, ◌≤◌, ◌==◌, ◌&&◌, nat_lt, nat_le, List, length, Option, None, Some, Result, Ok, Err, ℤ, pos, neg_ℤ, ◌-ℤ◌, ◌≤ℤ◌, ◌<ℤ◌, if◌then◌else◌}
use Rattle.std.specs.Char.{is_ascii_digit}
use Rattle.std.specs.List.{list_all}
use Rattle.spec_text.specs.declared.decimals.Decimal.{Decimal}
use Rattle.spec_text.specs.declared.decimals.NumberFault.{NumberFault}
use Rattle.spec_text.specs.declared.decimals.NumberFault.TheVariants.{NotNumber, TooManyDigits, ExponentRange}
use Rattle.spec_text.specs.declared.limits.TheConstants.{MAX_WORD_BYTES, MAX_DIGITS, MAX_EXPONENT, MAX_WHOLE_DIGITS}
use Rattle.spec_text.specs.Decimals.{Sign, minus, Exponent, Numeral, Spells, after_point, digits, exponent_size, significant, value}
use Rattle.spec_text.specs.Splitting.{numeral_of}

abbrev pub signed : Sign → ℕ → ℤ
signed minus n = neg_ℤ (pos n)
signed sign n = pos n

-- the written exponent, 0 where none is written
abbrev pub exponent_value : Option Exponent → ℤ
exponent_value None = pos 0
exponent_value (Some e) = signed e.sign (value e.digits)

-- the digits without the point, times ten to the written exponent less the number of digits after the point; 0 is 0 times ten to the 0
abbrev pub decimal_of : Numeral → Decimal
decimal_of n =
    if value (digits n) == 0 then record { mant = pos 0; exp = pos 0 }
    else record { mant = signed n.sign (value (digits n)); exp = exponent_value n.exponent -ℤ pos (length (after_point n.fraction)) }

-- a numeral of at most 18 digits from the first that is not 0
pub record SpellsShort (word : List ℕ) (n : Numeral) : Type 0 where
  pub spells : Spells word n
  pub few : length (significant (digits n)) ≤ MAX_DIGITS

-- the answer for a word: its value, or the first fault that applies
abbrev pub Reads : List ℕ → Result Decimal NumberFault → Type 0
Reads word (Ok d) = (n : Numeral) × SpellsShort word n × (exponent_size n.exponent ≤ MAX_EXPONENT) × (d ≡ decimal_of n)
Reads word (Err NotNumber) = (n : Numeral) → Spells word n → ⊥
Reads word (Err TooManyDigits) = (n : Numeral) × Spells word n × (MAX_DIGITS < length (significant (digits n)))
Reads word (Err ExponentRange) = (n : Numeral) × SpellsShort word n × (MAX_EXPONENT < exponent_size n.exponent)

abbrev pub reading_of : Option Numeral → Result Decimal NumberFault
reading_of None = Err NotNumber
reading_of (Some n) =
    if nat_lt MAX_DIGITS (length (significant (digits n))) then Err TooManyDigits
    else if nat_lt MAX_EXPONENT (exponent_size n.exponent) then Err ExponentRange
    else Ok (decimal_of n)

-- the answer for a word, as a function that computes
abbrev pub reading : List ℕ → Result Decimal NumberFault
reading word = if nat_lt MAX_WORD_BYTES (length word) then Err NotNumber else reading_of (numeral_of word)

-- a decimal within the bounds that every word keeps
pub record IsWithinBounds (d : Decimal) : Type 0 where
  pub mant_low : neg_ℤ (pos (10 ^ 18)) <ℤ d.mant
  pub mant_high : d.mant <ℤ pos (10 ^ 18)
  pub exp_low : neg_ℤ (pos 139) ≤ℤ d.exp
  pub exp_high : d.exp ≤ℤ pos 99

-- the number of a fault
abbrev pub fault_number : NumberFault → ℕ
fault_number NotNumber = 1
fault_number TooManyDigits = 2
fault_number ExponentRange = 3

-- the whole number that a word of 1 to 9 digits is
abbrev pub whole_of : List ℕ → Option ℕ
whole_of word =
    if list_all is_ascii_digit word && (nat_lt 0 (length word) && nat_le (length word) MAX_WHOLE_DIGITS) then Some (value word)
    else None

-- the whole number at a place of a line, if one stands there
abbrev pub whole_at : Option (List ℕ) → Option ℕ
whole_at None = None
whole_at (Some word) = whole_of word
