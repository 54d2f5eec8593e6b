-- The words of generated blocks, and the numbers that they are.
use Rattle.std.specs.Prelude.{ℕ, ◌+◌, ◌-◌, ◌*◌, ◌==◌, nat_lt, int_lt, List, [], ◌∷◌, ◌++◌, length, replicate, codes, ℤ, pos, neg_ℤ, unsigned_abs, if◌then◌else◌}
use Rattle.std.specs.Fmt.{decimal}
use Rattle.spec_text.specs.Bytes.{digit_zero, minus_sign}
use Rattle.spec_text.specs.declared.decimals.Decimal.{Decimal}
use Rattle.spec_text.specs.declared.limits.TheConstants.{MAX_DIGITS}
use Rattle.spec_ephemeris.specs.declared.limits.TheConstants.{FIRST_PLACE}
use Rattle.spec_generated.specs.Draws.{drawn, draws_upto, state_after}
use Rattle.spec_generated.specs.Coefficients.{millionths, term_at}
use Rattle.spec_generated.specs.declared.limits.TheConstants.{BLOCK_DATES, FIRST_DATE, NCOEFF}

-- a number below 10^18 in 18 digits, with zeros at the front
abbrev pub padded_digits : ℕ → List ℕ
padded_digits n = replicate (MAX_DIGITS - length (decimal n)) digit_zero ++ decimal n

-- `0.`, 18 digits and an exponent
abbrev pub fraction_word : ℕ → List ℕ → List ℕ
fraction_word n exponent = codes "0." ++ (padded_digits n ++ exponent)

-- the Julian date at which this block begins, in units of 10^-11 days; blocks are counted from 0
abbrev pub date_of : ℕ → ℕ
date_of block = FIRST_DATE + block * BLOCK_DATES

abbrev pub date_word : ℕ → List ℕ
date_word block = fraction_word (date_of block) (codes "D+07")

abbrev pub date_number : ℕ → Decimal
date_number block = record { mant = pos (date_of block); exp = neg_ℤ (pos 11) }

abbrev pub sign_word : ℤ → List ℕ
sign_word z = if int_lt z (pos 0) then minus_sign ∷ [] else []

-- so many millionths of a km
abbrev pub coefficient_word : ℤ → List ℕ
coefficient_word z = sign_word z ++ fraction_word (unsigned_abs z) (codes "D+12")

abbrev pub coefficient_number : ℤ → Decimal
coefficient_number z =
    if unsigned_abs z == 0 then record { mant = pos 0; exp = pos 0 } else record { mant = z; exp = neg_ℤ (pos 6) }

-- the coefficient at a place of a block that begins with this state, in millionths of a km
abbrev pub coefficient_at : ℕ → ℕ → ℤ
coefficient_at state place = millionths (term_at place) (drawn (state_after state (draws_upto place)))

-- a word after the last number of a block, on its line
abbrev pub zero_word : List ℕ
zero_word = codes "0.000000000000000000D+00"

-- the word at a place, counted from 1, of this block, counted from 0, which begins with this state: two dates, that at
-- which the block begins and that at which the next one begins; coefficients; and zeros
unfoldable pub block_word : ℕ → ℕ → ℕ → List ℕ
block_word state block place =
    if nat_lt place FIRST_PLACE then date_word (block + (place - 1))
    else if nat_lt NCOEFF place then zero_word
    else coefficient_word (coefficient_at state place)

-- the number at a place
unfoldable pub block_number : ℕ → ℕ → ℕ → Decimal
block_number state block place =
    if nat_lt place FIRST_PLACE then date_number (block + (place - 1)) else coefficient_number (coefficient_at state place)
