-- The text of a numeral is split into that numeral.
use Rattle.std.proofs.Common.{◌≡◌, ℕ, ◌<◌, ◌≤◌, ◌≢◌, List, [], ◌∷◌, ◌++◌, Option, None, Some, IfSome, true, false, length, get_or, ne_eqb, refl, sym, ap, ◌∙◌, append-nil, arith}
use Rattle.std.specs.Char.{is_ascii_digit}
use Rattle.std.proofs.lemmas.Bool.Decides.{nat_tests}
use Rattle.spec_text.specs.Decimals.{Sign, unsigned, plus, minus, Exponent, Numeral, AreDigits, IsMark, IsExponent, IsNumeral, sign_text, fraction_text, exponent_text, text, after_point, digits}
use Rattle.spec_text.specs.Splitting.{sign_at, digits_at, fraction_at, is_mark, exponent_of, exponent_at, numeral_of}

-- what may follow a sign
pub record NoSign (bs : List ℕ) : Type 0 where
  pub no_plus : get_or bs 0 0 ≢ 43
  pub no_minus : get_or bs 0 0 ≢ 45

pub sign_again : (sign : Sign) (bs : List ℕ) → NoSign bs → sign_at (sign_text sign ++ bs) ≡ (sign, bs)
sign_again unsigned [] follow = refl
sign_again unsigned (b ∷ bs) follow = rw (ne_eqb b 43 follow.no_plus, ne_eqb b 45 follow.no_minus) refl
sign_again plus bs follow = refl
sign_again minus bs follow = refl

pub digit_tests : (b : ℕ) → 48 ≤ b → b ≤ 57 → is_ascii_digit b ≡ true
digit_tests b low high = grind (arith, nat_tests)

pub digits_again : (ds bs : List ℕ) → AreDigits ds → is_ascii_digit (get_or bs 0 0) ≡ false → digits_at (ds ++ bs) ≡ (ds, bs)
digits_again [] [] are other = refl
digits_again [] (b ∷ bs) are other = rw other refl
digits_again (d ∷ ds) bs are other =
    rw (digit_tests d are.0.0 are.0.1) (ap (λ (p : List ℕ × List ℕ). (d ∷ p.0, p.1)) (digits_again ds bs are.1 other))

-- what may follow a fraction
pub record NoFraction (bs : List ℕ) : Type 0 where
  pub no_digit : is_ascii_digit (get_or bs 0 0) ≡ false
  pub no_point : get_or bs 0 0 ≢ 46

pub fraction_again : (fraction : Option (List ℕ)) (bs : List ℕ) → AreDigits (after_point fraction) → NoFraction bs
    → fraction_at (fraction_text fraction ++ bs) ≡ (fraction, bs)
fraction_again None [] are follow = refl
fraction_again None (b ∷ bs) are follow = rw (ne_eqb b 46 follow.no_point) refl
fraction_again (Some ds) bs are follow =
    ap (λ (p : List ℕ × List ℕ). (Some p.0, p.1)) (digits_again ds bs are follow.no_digit)

pub mark_tests : (b : ℕ) → IsMark b → is_mark b ≡ true
mark_tests b mark = grind (arith, nat_tests)

exponent_of_again : (b : ℕ) (sign : Sign) (ds : List ℕ) → 0 < length ds
    → exponent_of b sign ds [] ≡ Some (Some (record { mark = b; sign = sign; digits = ds }))
exponent_of_again b sign [] some = absurd (omega arith)
exponent_of_again b sign (d ∷ ds) some = refl

-- digits are follow sign
digits_no_sign : (ds : List ℕ) → AreDigits ds → NoSign ds
digits_no_sign [] are = record { no_plus = λ e. absurd (omega arith); no_minus = λ e. absurd (omega arith) }
digits_no_sign (d ∷ ds) are = record { no_plus = λ e. absurd (omega (arith, are.0.0, are.0.1)); no_minus = λ e. absurd (omega (arith, are.0.0, are.0.1)) }

pub exponent_again : (exponent : Option Exponent) → IfSome exponent IsExponent → exponent_at (exponent_text exponent) ≡ Some exponent
exponent_again None form = refl
exponent_again (Some e) form =
    let signs : sign_at (sign_text e.sign ++ e.digits) ≡ (e.sign, e.digits) = sign_again e.sign e.digits (digits_no_sign e.digits form.digits) in
    let ds : digits_at e.digits ≡ (e.digits, []) = ap digits_at (sym (append-nil e.digits)) ∙ digits_again e.digits [] form.digits refl in
    rw (mark_tests e.mark form.mark, signs, ds) (exponent_of_again e.mark e.sign e.digits form.some)

exponent_no_fraction : (exponent : Option Exponent) → IfSome exponent IsExponent → NoFraction (exponent_text exponent)
exponent_no_fraction None form = record { no_digit = refl; no_point = λ e. absurd (omega arith) }
exponent_no_fraction (Some e) form =
    let mark = form.mark in
    record { no_digit = grind (arith, nat_tests); no_point = grind (arith, nat_tests) }

fraction_no_digit : (fraction : Option (List ℕ)) (exponent : Option Exponent) → IfSome exponent IsExponent
    → is_ascii_digit (get_or (fraction_text fraction ++ exponent_text exponent) 0 0) ≡ false
fraction_no_digit None exponent form = (exponent_no_fraction exponent form).no_digit
fraction_no_digit (Some ds) exponent form = refl

whole_no_sign : (whole : List ℕ) (fraction : Option (List ℕ)) (bs : List ℕ) → AreDigits whole → 0 < length (whole ++ after_point fraction)
    → NoSign (whole ++ (fraction_text fraction ++ bs))
whole_no_sign [] None bs are some = absurd (omega arith)
whole_no_sign [] (Some ds) bs are some = record { no_plus = λ e. absurd (omega arith); no_minus = λ e. absurd (omega arith) }
whole_no_sign (d ∷ ds) fraction bs are some = record { no_plus = λ e. absurd (omega (arith, are.0.0, are.0.1)); no_minus = λ e. absurd (omega (arith, are.0.0, are.0.1)) }

pub numeral_again : (n : Numeral) → IsNumeral n → numeral_of (text n) ≡ Some n
numeral_again n form =
    let tail = fraction_text n.fraction ++ exponent_text n.exponent in
    let signs : sign_at (text n) ≡ (n.sign, n.whole ++ tail) = sign_again n.sign (n.whole ++ tail) (whole_no_sign n.whole n.fraction (exponent_text n.exponent) form.whole form.some) in
    let wholes : digits_at (n.whole ++ tail) ≡ (n.whole, tail) = digits_again n.whole tail form.whole (fraction_no_digit n.fraction n.exponent form.exponent) in
    let fractions : fraction_at tail ≡ (n.fraction, exponent_text n.exponent) = fraction_again n.fraction (exponent_text n.exponent) form.fraction (exponent_no_fraction n.exponent form.exponent) in
    let some : length (digits n) ≢ 0 = λ e. absurd (omega (arith, form.some)) in
    rw (signs, wholes, fractions, exponent_again n.exponent form.exponent, ne_eqb (length (digits n)) 0 some) refl
