-- What words of a polynomial's numbers stand for.
use Rattle.std.proofs.Common.{◌≡◌, ◌≢◌, ◌∙◌, ◌==◌, ℕ, Bool, true, false, [], ◌∷◌, Option, Some, None, length, nat_lt, option_map, pos, neg_ℤ, refl, sym, ap, arith, lit<}
use Rattle.std.specs.Borrow.{Bor}
use Rattle.std.specs.List.{position_or_len}
use Rattle.std.proofs.lemmas.Bool.Decides.{nat_tests}
use Rattle.std.proofs.lemmas.Str.Pattern.{IsSplitOnceResult, split_once_first}
use Rattle.spec_text.specs.Bytes.{minus_sign}
use Rattle.spec_requests.specs.Names.{Text}
use Rattle.spec_requests.specs.Options.{at_comma, is_comma, number_of, quad_of, quad_of_parts, signed_of}
use Rattle.option_values.specs.declared.polynomials.Polynomial.{Polynomial}
use Rattle.option_values.specs.Polynomials.{as_polynomial, bytes_of_two, polynomial_of, polynomial_of_two}

-- a text is split at its first comma
pub comma_found : (word : Text) (found : Option (Bor Text × Bor Text)) → IsSplitOnceResult 44 word found
    → bytes_of_two found ≡ at_comma word
unfolding at_comma
comma_found word None is =
    let none : position_or_len is_comma word ≡ length word = split_once_first 44 word None is (lit< tt) in
    let past : nat_lt (position_or_len is_comma word) (length word) ≡ false = grind (arith, nat_tests) in
    rw past refl
comma_found word (Some texts) is =
    let parts = split_once_first 44 word (Some texts) is (lit< tt) in
    let before : nat_lt (position_or_len is_comma word) (length word) ≡ true = grind (arith, nat_tests) in
    rw before (λ i. Some (parts.1 i, parts.2 i))

-- a number with a minus sign
pub signed_below : (digits most : ℕ) (word rest : Text) (found : Option ℕ) → word ≡ 45 ∷ rest
    → found ≡ number_of digits 0 most rest → option_map (λ n. neg_ℤ (pos n)) found ≡ signed_of digits most word
unfolding signed_of
signed_below digits most word rest found same is =
    ap (option_map (λ n. neg_ℤ (pos n))) is ∙ sym (ap (signed_of digits most) same)

-- and one without
pub signed_above : (digits most : ℕ) (word : Text) (found : Option ℕ) → ((rest : Text) → word ≢ 45 ∷ rest)
    → found ≡ number_of digits 0 most word → option_map pos found ≡ signed_of digits most word
unfolding signed_of number_of
signed_above digits most [] found unsigned is = ap (option_map pos) is
signed_above digits most (byte ∷ word) found unsigned is =
    let other : (byte == minus_sign) ≡ false = by (byte == minus_sign) refl in
    rw other (ap (option_map pos) is)
  where
    by : (minus : Bool) → (byte == minus_sign) ≡ minus → minus ≡ false
    by false is = refl
    by true is =
        let same : byte ≡ 45 = grind (arith, nat_tests) in
        absurd (unsigned word (ap (λ b. b ∷ word) same))

pub quad_split : (word p : Text) (rest : Text) (others : Option (Text × Text)) (found : Option Polynomial)
    → Some (p, rest) ≡ at_comma word → others ≡ at_comma rest → found ≡ polynomial_of_two p others → found ≡ polynomial_of word
unfolding quad_of
quad_split word p rest others found first second is =
    is ∙ ap (polynomial_of_two p) second ∙ ap (λ parts. option_map as_polynomial (quad_of_parts parts)) first

pub quad_whole : (word : Text) → None ≡ at_comma word → None ≡ polynomial_of word
unfolding quad_of
quad_whole word none = ap (λ parts. option_map as_polynomial (quad_of_parts parts)) none
