-- What a word is split into is a numeral, and its text is the word.
use Rattle.std.proofs.Common.{◌≡◌, ℕ, ◌==◌, List, [], ◌∷◌, ◌++◌, Option, None, Some, IfSome, true, length, eq-eqb, ne_eqb, refl, ap, ◌∙◌, subst, append-nil, inl, inr, arith}
use Rattle.std.specs.Char.{is_ascii_digit}
use Rattle.std.proofs.lemmas.Bool.{cases_Bool, cases_eq}
use Rattle.std.proofs.lemmas.Bool.Decides.{nat_tests}
use Rattle.spec_text.specs.Decimals.{Sign, Exponent, Numeral, IsDigit, AreDigits, IsMark, IsExponent, IsNumeral, sign_text, fraction_text, exponent_text, text, after_point}
use Rattle.spec_text.specs.Splitting.{sign_at, digits_at, fraction_at, is_mark, exponent_of, exponent_at, numeral_from, numeral_of}

pub sign_at_text : (bs : List ℕ) → bs ≡ sign_text (sign_at bs).0 ++ (sign_at bs).1
sign_at_text [] = refl
sign_at_text (b ∷ bs) = grind (arith, nat_tests)

pub digits_at_text : (bs : List ℕ) → bs ≡ (digits_at bs).0 ++ (digits_at bs).1
digits_at_text [] = refl
digits_at_text (b ∷ bs) = elim (cases_Bool (is_ascii_digit b)) [
  | inl digit ↦ rw digit (ap (λ (l : List ℕ). b ∷ l) (digits_at_text bs))
  | inr other ↦ rw other refl
]

pub is_digit : (b : ℕ) → is_ascii_digit b ≡ true → IsDigit b
is_digit b test = grind (arith, nat_tests)

pub digits_at_are : (bs : List ℕ) → AreDigits (digits_at bs).0
digits_at_are [] = tt
digits_at_are (b ∷ bs) = elim (cases_Bool (is_ascii_digit b)) [
  | inl digit ↦ rw digit (is_digit b digit, digits_at_are bs)
  | inr other ↦ rw other tt
]

pub fraction_at_text : (bs : List ℕ) → bs ≡ fraction_text (fraction_at bs).0 ++ (fraction_at bs).1
fraction_at_text [] = refl
fraction_at_text (b ∷ bs) = elim (cases_Bool (b == 46)) [
  | inl point ↦ rw point (grind (arith, nat_tests, digits_at_text bs))
  | inr other ↦ rw other refl
]

pub fraction_at_are : (bs : List ℕ) → AreDigits (after_point (fraction_at bs).0)
fraction_at_are [] = tt
fraction_at_are (b ∷ bs) = elim (cases_Bool (b == 46)) [
  | inl point ↦ rw point (digits_at_are bs)
  | inr other ↦ rw other tt
]

pub is_mark_is : (b : ℕ) → is_mark b ≡ true → IsMark b
is_mark_is b test = grind (arith, nat_tests)

-- an exponent that was read has its text, and its digits
pub record IsExponentOf (bs : List ℕ) (e : Option Exponent) : Type 0 where
  pub bytes : bs ≡ exponent_text e
  pub form : IfSome e IsExponent

exponent_of_is : (b : ℕ) (sign : Sign) (ds rest : List ℕ) (e : Option Exponent) → IsMark b → AreDigits ds → exponent_of b sign ds rest ≡ Some e
    → IsExponentOf (b ∷ sign_text sign ++ (ds ++ rest)) e
exponent_of_is b sign [] rest e mark are is = absurd (cc)
exponent_of_is b sign (d ∷ ds) (r ∷ rest) e mark are is = absurd (cc)
exponent_of_is b sign (d ∷ ds) [] e mark are is =
    let read : Exponent = record { mark = b; sign = sign; digits = d ∷ ds } in
    let same : Some read ≡ e = cc in
    let whole : IsExponentOf (b ∷ sign_text sign ++ (d ∷ ds ++ [])) (Some read) = record {
      bytes = ap (λ (l : List ℕ). b ∷ sign_text sign ++ l) (append-nil (d ∷ ds));
      form = record { mark = mark; digits = are; some = omega arith };
    } in
    subst (IsExponentOf (b ∷ sign_text sign ++ (d ∷ ds ++ []))) same whole

pub exponent_at_is : (bs : List ℕ) (e : Option Exponent) → exponent_at bs ≡ Some e → IsExponentOf bs e
exponent_at_is [] e is =
    let none : Option Exponent = None in
    let same : none ≡ e = cc in
    subst (IsExponentOf []) same (record { bytes = refl; form = tt })
exponent_at_is (b ∷ bs) e is = elim (cases_Bool (is_mark b)) [
  | inl mark ↦
      let got = rw mark at is in
      let parts = exponent_of_is b (sign_at bs).0 (digits_at (sign_at bs).1).0 (digits_at (sign_at bs).1).1 e (is_mark_is b mark) (digits_at_are (sign_at bs).1) got in
      let cut = sign_at_text bs ∙ ap (λ (l : List ℕ). sign_text (sign_at bs).0 ++ l) (digits_at_text (sign_at bs).1) in
      record { bytes = ap (λ (l : List ℕ). b ∷ l) cut ∙ parts.bytes; form = parts.form }
  | inr other ↦ let got = rw other at is in absurd (cc)
]

-- a word that is split is the text of its numeral
pub record IsNumeralOf (word : List ℕ) (n : Numeral) : Type 0 where
  pub form : IsNumeral n
  pub bytes : word ≡ text n

numeral_from_is : (sign : Sign) (whole : List ℕ) (fraction : Option (List ℕ)) (rest : List ℕ) (read : Option (Option Exponent)) (n : Numeral)
    → AreDigits whole → AreDigits (after_point fraction) → ((e : Option Exponent) → read ≡ Some e → IsExponentOf rest e)
    → numeral_from sign whole fraction read ≡ Some n → IsNumeralOf (sign_text sign ++ (whole ++ (fraction_text fraction ++ rest))) n
numeral_from_is sign whole fraction rest None n whole_are fraction_are reads is = absurd (cc)
numeral_from_is sign whole fraction rest (Some e) n whole_are fraction_are reads is = elim (cases_eq (length (whole ++ after_point fraction)) 0) [
  | inl none ↦ let got = rw (eq-eqb _ _ none) at is in absurd (cc)
  | inr some ↦
      let got = rw (ne_eqb _ _ some) at is in
      let read : Numeral = record { sign = sign; whole = whole; fraction = fraction; exponent = e } in
      let same : read ≡ n = cc in
      let tail = reads e refl in
      subst (IsNumeralOf (sign_text sign ++ (whole ++ (fraction_text fraction ++ rest)))) same (record {
        form = record { whole = whole_are; fraction = fraction_are; some = omega arith; exponent = tail.form };
        bytes = ap (λ (l : List ℕ). sign_text sign ++ (whole ++ (fraction_text fraction ++ l))) tail.bytes;
      })
]

pub numeral_of_is : (word : List ℕ) (n : Numeral) → numeral_of word ≡ Some n → IsNumeralOf word n
numeral_of_is word n is =
    let sign = sign_at word in
    let whole = digits_at sign.1 in
    let fraction = fraction_at whole.1 in
    let cut : word ≡ sign_text sign.0 ++ (whole.0 ++ (fraction_text fraction.0 ++ fraction.1)) =
    sign_at_text word ∙ ap (λ (l : List ℕ). sign_text sign.0 ++ l) (digits_at_text sign.1 ∙ ap (λ (l : List ℕ). whole.0 ++ l) (fraction_at_text whole.1)) in
    let parts = numeral_from_is sign.0 whole.0 fraction.0 fraction.1 (exponent_at fraction.1) n (digits_at_are sign.1) (fraction_at_are whole.1) (exponent_at_is fraction.1) is in
    record { form = parts.form; bytes = cut ∙ parts.bytes }
