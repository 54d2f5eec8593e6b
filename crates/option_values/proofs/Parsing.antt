-- What `parse` makes of a word of digits.
use Rattle.std.proofs.Common.{◌≡◌, ◌∙◌, ◌&&◌, ◌^◌, ◌<◌, ℕ, true, false, [], ◌∷◌, Option, Some, None, length, cond, refl, sym, ap, subst, inl, inr, arith, nat_le, nat_lt}
use Rattle.std.specs.Char.{is_ascii_digit, digit_value}
use Rattle.std.specs.List.{list_all}
use Rattle.std.specs.Str.Parse.{AllDigits, IsNumeral, digits_value, without_leading_plus}
use Rattle.std.proofs.lemmas.Bool.{cases_lt, ltb-true}
use Rattle.std.proofs.lemmas.Bool.Decides.{nat_tests}
use Rattle.std.proofs.lemmas.Str.{digit_value_digit}
use Rattle.std.proofs.lemmas.Str.Parse.{without_leading_plus_none}
use Rattle.clap.proofs.WalkLemmas.{both}
use Rattle.spec_text.proofs.Sound.{is_digit}
use Rattle.spec_requests.specs.Names.{Text}
use Rattle.spec_requests.specs.Options.{are_digits, number_of}

digit_small : (b : ℕ) → is_ascii_digit b ≡ true → digit_value b < 10
digit_small b e =
    let range = is_digit b e in
    let value = digit_value_digit b range in
    omega arith

all_digits : (word : Text) → list_all is_ascii_digit word ≡ true → AllDigits 10 word
all_digits [] e = tt
all_digits (b ∷ bs) e = (digit_small b (both _ _ e).0, all_digits bs (both _ _ e).1)

no_plus : (word : Text) → list_all is_ascii_digit word ≡ true → without_leading_plus word ≡ word
no_plus [] e = refl
no_plus (b ∷ bs) e =
    without_leading_plus_none (b ∷ bs) (λ plus. let range = is_digit b (both _ _ e).0 in absurd (omega arith))

digits_of : (digits : ℕ) (word : Text) → are_digits digits word ≡ true → list_all is_ascii_digit word ≡ true
digits_of digits word are =
    (both (list_all is_ascii_digit word) (nat_lt 0 (length word) && nat_le (length word) digits) are).0

some_of : (digits : ℕ) (word : Text) → are_digits digits word ≡ true → 0 < length word
some_of digits word are =
    let sizes = (both (list_all is_ascii_digit word) (nat_lt 0 (length word) && nat_le (length word) digits) are).1 in
    ltb-true _ _ (both (nat_lt 0 (length word)) (nat_le (length word) digits) sizes).0

-- the number, where it lies in the limits
abbrev pub within : ℕ → ℕ → ℕ → Option ℕ
within least most n = cond (nat_le least n && nat_le n most) (Some n) None

number_is : (digits least most : ℕ) (word : Text) → are_digits digits word ≡ true
    → number_of digits least most word ≡ within least most (digits_value 10 word)
unfolding number_of
number_is digits least most word are = rw are refl

pub no_number : (digits least most : ℕ) (word : Text) → are_digits digits word ≡ false → None ≡ number_of digits least most word
unfolding number_of
no_number digits least most word are = rw are refl

pub number_parsed : (digits least most n : ℕ) (word : Text) (result : Option ℕ) → are_digits digits word ≡ true
    → n ≡ digits_value 10 (without_leading_plus word) → result ≡ within least most n → result ≡ number_of digits least most word
number_parsed digits least most n word result are parsed is =
    let value : n ≡ digits_value 10 word = parsed ∙ ap (digits_value 10) (no_plus word (digits_of digits word are)) in
    is ∙ ap (within least most) value ∙ sym (number_is digits least most word are)

out_of_limits : (least most n : ℕ) → most < n → None ≡ within least most n
out_of_limits least most n past = grind (arith, nat_tests)

pub number_too_large : (digits least most : ℕ) (word : Text) → are_digits digits word ≡ true → most < 2 ^ 64
    → ¬ (IsNumeral 10 (without_leading_plus word) × (digits_value 10 (without_leading_plus word) < 2 ^ 64))
    → None ≡ number_of digits least most word
number_too_large digits least most word are most_small refused =
    let all = digits_of digits word are in
    let plain : without_leading_plus word ≡ word = no_plus word all in
    let P : Text → Type 0 = λ w. ¬ (IsNumeral 10 w × (digits_value 10 w < 2 ^ 64)) in
    let large : ¬ (IsNumeral 10 word × (digits_value 10 word < 2 ^ 64)) = subst P plain refused in
    elim (cases_lt most (digits_value 10 word)) [
      | inl past ↦ out_of_limits least most (digits_value 10 word) past ∙ sym (number_is digits least most word are)
      | inr within ↦ absurd (large ((some_of digits word are, all_digits word all), omega arith))
    ]
