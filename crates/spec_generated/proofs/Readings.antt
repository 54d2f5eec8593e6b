-- What the words of generated blocks are read as.
use Rattle.std.proofs.Common.{◌≡◌, ◌^◌, ◌<◌, ◌≤◌, ◌==◌, ℕ, [], ◌∷◌, ◌++◌, length, Some, Ok, refl, sym, ap, ◌∙◌, arith, lit≤, ℤ, pos, negsuc, suc, if◌then◌else◌, inl, ne_eqb}
use Rattle.std.specs.Prelude.{◌-ℤ◌, unsigned_abs}
use Rattle.std.proofs.lemmas.Bool.{le-ltb}
use Rattle.std.proofs.lemmas.List.{length-append}
use Rattle.spec_text.specs.declared.decimals.Decimal.{Decimal}
use Rattle.spec_text.specs.Decimals.{AreDigits, Exponent, IsExponent, IsNumeral, Numeral, Sign, digits, minus, plus, sign_text, significant, unsigned, value}
use Rattle.spec_text.specs.Reading.{SpellsShort, decimal_of, reading, signed}
use Rattle.spec_text.proofs.Answering.{reads_is}
use Rattle.spec_generated.specs.Words.{coefficient_number, coefficient_word, date_number, date_of, date_word, fraction_word, padded_digits}
use Rattle.spec_generated.proofs.Digits.{fewer_significant, is_padded}

-- an exponent of two digits
abbrev exponent : ℕ → ℕ → Exponent
exponent tens ones = record { mark = 68; sign = plus; digits = tens ∷ ones ∷ [] }

abbrev fraction : Sign → ℕ → ℕ → ℕ → Numeral
fraction sign n tens ones = record { sign = sign; whole = 48 ∷ []; fraction = Some (padded_digits n); exponent = Some (exponent tens ones) }

short_sign : (sign : Sign) → length (sign_text sign) ≤ 1
short_sign unsigned = omega arith
short_sign plus = omega arith
short_sign minus = omega arith

-- so many millionths, or parts of a date
abbrev scaled : Sign → ℕ → ℕ → Decimal
scaled sign n power = if n == 0 then record { mant = pos 0; exp = pos 0 } else record { mant = signed sign n; exp = pos power -ℤ pos 18 }

pub fraction_reads : (sign : Sign) (n power tens ones : ℕ) → n < 10 ^ 18 → AreDigits (tens ∷ ones ∷ []) → value (tens ∷ ones ∷ []) ≡ power → power ≤ 99
    → reading (sign_text sign ++ fraction_word n (68 ∷ 43 ∷ tens ∷ ones ∷ [])) ≡ Ok (scaled sign n power)
fraction_reads sign n power tens ones small are is near =
    let padded = is_padded n small in
    let number = fraction sign n tens ones in
    let word = sign_text sign ++ fraction_word n (68 ∷ 43 ∷ tens ∷ ones ∷ []) in
    let e : IsExponent (exponent tens ones) = record { mark = inl refl; digits = are; some = omega arith } in
    let form : IsNumeral number = record { whole = ((lit≤ tt, lit≤ tt), tt); fraction = padded.digits; some = omega arith; exponent = e } in
    let few : length (significant (digits number)) ≤ 18 = omega (arith, fewer_significant (padded_digits n), padded.count) in
    let front = length-append (sign_text sign) (fraction_word n (68 ∷ 43 ∷ tens ∷ ones ∷ [])) in
    let back = length-append (padded_digits n) (68 ∷ 43 ∷ tens ∷ ones ∷ []) in
    let short : length word ≤ 40 = omega (arith, front, back, padded.count, short_sign sign) in
    let spells : SpellsShort word number = record { spells = record { form = form; bytes = refl; short = short }; few = few } in
    let read : Ok (decimal_of number) ≡ reading word = reads_is word (Ok (decimal_of number)) (number, spells, rw is near, refl) in
    let same : decimal_of number ≡ scaled sign n power =
    λ i. if padded.value i == 0 then record { mant = pos 0; exp = pos 0 } else record { mant = signed sign (padded.value i); exp = pos (is i) -ℤ pos (padded.count i) } in
    sym read ∙ ap (λ (d : Decimal). Ok d) same

seven : AreDigits (48 ∷ 55 ∷ [])
seven = ((lit≤ tt, lit≤ tt), ((lit≤ tt, lit≤ tt), tt))

twelve : AreDigits (49 ∷ 50 ∷ [])
twelve = ((lit≤ tt, lit≤ tt), ((lit≤ tt, lit≤ tt), tt))

-- a coefficient, in millionths of a km
pub coefficient_reads : (z : ℤ) → unsigned_abs z < 10 ^ 18 → reading (coefficient_word z) ≡ Ok (coefficient_number z)
coefficient_reads (pos n) small =
    rw (le-ltb n 0 (omega arith)) (fraction_reads unsigned n 12 49 50 small twelve refl (lit≤ tt))
coefficient_reads (negsuc n) small = fraction_reads minus (suc n) 12 49 50 small twelve refl (lit≤ tt)

-- the Julian date at which one of the blocks begins or the last one ends
pub date_reads : (block : ℕ) → block ≤ 41 → reading (date_word block) ≡ Ok (date_number block)
date_reads block few =
    let some : date_of block ≡ 0 → ⊥ = λ e. omega (arith, e) in
    fraction_reads unsigned (date_of block) 7 48 55 (omega (arith, few)) seven refl (lit≤ tt) ∙ rw (ne_eqb (date_of block) 0 some) refl
