-- The numeral that a word is, found from the word's front.
use Rattle.std.specs.Prelude.{ℕ, ◌||◌, ◌==◌, Bool, List, [], ◌∷◌, ◌++◌, length, Option, None, Some, if◌then◌else◌}
use Rattle.std.specs.Char.{is_ascii_digit}
use Rattle.spec_text.specs.Bytes.{plus_sign, minus_sign, point}
use Rattle.spec_text.specs.Decimals.{Sign, unsigned, plus, minus, Exponent, Numeral, after_point}

-- a sign at the front, and the rest
abbrev pub sign_at : List ℕ → Sign × List ℕ
sign_at [] = (unsigned, [])
sign_at (b ∷ bs) = if b == plus_sign then (plus, bs) else if b == minus_sign then (minus, bs) else (unsigned, b ∷ bs)

-- the digits at the front, and the rest
abbrev pub digits_at : List ℕ → List ℕ × List ℕ
digits_at [] = ([], [])
digits_at (b ∷ bs) = if is_ascii_digit b then (b ∷ (digits_at bs).0, (digits_at bs).1) else ([], b ∷ bs)

-- a point and digits at the front, and the rest
abbrev pub fraction_at : List ℕ → Option (List ℕ) × List ℕ
fraction_at [] = (None, [])
fraction_at (b ∷ bs) = if b == point then (Some (digits_at bs).0, (digits_at bs).1) else (None, b ∷ bs)

-- D, d, E or e
abbrev pub is_mark : ℕ → Bool
is_mark b = b == 68 || (b == 100 || (b == 69 || b == 101))

-- an exponent of these digits, where there is one and nothing follows
abbrev pub exponent_of : ℕ → Sign → List ℕ → List ℕ → Option (Option Exponent)
exponent_of mark sign [] rest = None
exponent_of mark sign (d ∷ ds) [] = Some (Some (record { mark = mark; sign = sign; digits = d ∷ ds }))
exponent_of mark sign (d ∷ ds) (b ∷ bs) = None

-- the whole list as an exponent, which may be left out
abbrev pub exponent_at : List ℕ → Option (Option Exponent)
exponent_at [] = Some None
exponent_at (b ∷ bs) =
    if is_mark b then exponent_of b (sign_at bs).0 (digits_at (sign_at bs).1).0 (digits_at (sign_at bs).1).1 else None

-- a numeral of these parts, where there is a digit
abbrev pub numeral_from : Sign → List ℕ → Option (List ℕ) → Option (Option Exponent) → Option Numeral
numeral_from sign whole fraction None = None
numeral_from sign whole fraction (Some exponent) =
    if length (whole ++ after_point fraction) == 0 then None
    else Some (record { sign = sign; whole = whole; fraction = fraction; exponent = exponent })

-- the numeral that a word is, of whatever length
abbrev pub numeral_of : List ℕ → Option Numeral
numeral_of word =
    let sign = sign_at word in
    let whole = digits_at sign.1 in
    let fraction = fraction_at whole.1 in
    numeral_from sign.0 whole.0 fraction.0 (exponent_at fraction.1)
