-- Lines of printed bytes with words, and the text that they make.
use Rattle.std.proofs.Common.{◌≡◌, ◌+◌, ◌-◌, ◌^◌, ◌<◌, ◌≤◌, ℕ, zero, suc, true, false, List, [], ◌∷◌, ◌++◌, length, get_or, refl, ap, ◌∙◌, arith, ne_eqb, nat_le, nat_lt, rules}
use Rattle.std.specs.Char.{is_ascii_digit}
use Rattle.std.specs.List.{All, list_all}
use Rattle.std.specs.Str.Lines.{strip_carriage_return}
use Rattle.std.specs.Prelude.{slice_index}
use Rattle.std.specs.Fmt.{decimal}
use Rattle.std.proofs.lemmas.Fmt.{digits_decimal}
use Rattle.std.proofs.lemmas.Str.Parse.{IsNumeralModel, numerals_by_fold}
use Rattle.std.proofs.lemmas.Bool.{and_from, and_parts, le-ltb, leb-true, lt-ltb}
use Rattle.spec_text.specs.Decimals.{AreDigits, value, value_after}
use Rattle.spec_text.specs.Lines.{Numbered, counted_lines, is_line_feed, is_separator, lines, numbered_from, text_lines, tokens}
use Rattle.spec_text.specs.Printed.{AreFrom, AreLines, IsLine, joined_lines}
use Rattle.spec_text.proofs.Complete.{digit_tests}
use Rattle.spec_text.proofs.LineLemmas.{first_line}

-- ---- bytes
pub from_append : (least : ℕ) (xs ys : List ℕ) → AreFrom least xs → AreFrom least ys → AreFrom least (xs ++ ys)
from_append least [] ys xs_are ys_are = ys_are
from_append least (x ∷ xs) ys xs_are ys_are = (xs_are.0, from_append least xs ys xs_are.1 ys_are)

pub from_less : (least more : ℕ) (xs : List ℕ) → more ≤ least → AreFrom least xs → AreFrom more xs
from_less least more [] less are = tt
from_less least more (x ∷ xs) less are = (omega (arith, less, are.0), from_less least more xs less are.1)

-- a test of bytes
pub from_test : (least : ℕ) (xs : List ℕ) → list_all (nat_le least) xs ≡ true → AreFrom least xs
from_test least [] all = tt
from_test least (x ∷ xs) all = let parts = and_parts (nat_le least x) (list_all (nat_le least) xs) all in (leb-true least x parts.0, from_test least xs parts.1)

at_place : (least : ℕ) (xs : List ℕ) (k d : ℕ) → k < length xs → AreFrom least xs → least ≤ get_or xs k d
at_place least [] k d below are = absurd (omega (arith, below))
at_place least (x ∷ xs) zero d below are = are.0
at_place least (x ∷ xs) (suc k) d below are = at_place least xs k d (omega (arith, below)) are.1

pub no_separators : (word : List ℕ) → AreFrom 33 word → All (λ b. is_separator b ≡ false) word
no_separators word are k d below =
    let least = at_place 33 word k d below are in
    rw (ne_eqb (get_or word k d) 32 (λ e. omega (arith, least, e)), ne_eqb (get_or word k d) 9 (λ e. omega (arith, least, e))) refl

no_feeds : (line : List ℕ) → AreFrom 32 line → All (λ b. is_line_feed b ≡ false) line
no_feeds line are k d below = let least = at_place 32 line k d below are in ne_eqb (get_or line k d) 10 (λ e. omega (arith, least, e))

no_return : (line : List ℕ) → AreFrom 32 line → strip_carriage_return line ≡ line
no_return [] are = refl
no_return (b ∷ bs) are =
    let least = at_place 32 (b ∷ bs) (length (b ∷ bs) - 1) 0 (omega arith) are in
    rw (ne_eqb (slice_index (b ∷ bs) (length (b ∷ bs) - 1)) 13 (λ e. omega (arith, least, e))) refl

-- ---- digits
pub numerals : IsNumeralModel AreDigits value
numerals = numerals_by_fold AreDigits (search rules) value_after (search rules)

pub decimal_digits : (n : ℕ) → n < 2 ^ 64 → AreDigits (decimal n)
decimal_digits n fits = digits_decimal numerals n fits

pub digits_from : (ds : List ℕ) → AreDigits ds → AreFrom 33 ds
digits_from [] are = tt
digits_from (d ∷ ds) are = (omega (arith, are.0.0), digits_from ds are.1)

pub digits_pass : (ds : List ℕ) → AreDigits ds → list_all is_ascii_digit ds ≡ true
digits_pass [] are = refl
digits_pass (d ∷ ds) are = and_from _ _ (digit_tests d are.0.0 are.0.1) (digits_pass ds are.1)

-- ---- lines
-- a line of printed bytes
pub printed : (line : List ℕ) → AreFrom 32 line → length line ≤ 4096 → 0 < length (tokens line) → IsLine line
printed line are short some = record { no_feeds = no_feeds line are; no_return = no_return line are; short = short; some = some }

pub lines_append : (xs ys : List (List ℕ)) → AreLines xs → AreLines ys → AreLines (xs ++ ys)
lines_append [] ys xs_are ys_are = ys_are
lines_append (x ∷ xs) ys xs_are ys_are = (xs_are.0, lines_append xs ys xs_are.1 ys_are)

pub lines_joined : (ls : List (List ℕ)) → AreLines ls → lines (joined_lines ls) ≡ ls
unfolding joined_lines
lines_joined [] are = refl
lines_joined (line ∷ rest) are =
    first_line line (joined_lines rest) are.0.no_feeds
    ∙ (λ i. are.0.no_return i ∷ lines_joined rest are.1 i)

pub not_long : (line : List ℕ) → IsLine line → nat_lt 4096 (length line) ≡ false
not_long line is = le-ltb 4096 (length line) is.short

all_counted : (n : ℕ) (ls : List (List ℕ)) → AreLines ls → counted_lines (numbered_from n ls) ≡ numbered_from n ls
all_counted n [] are = refl
all_counted n (line ∷ rest) are =
    rw (not_long line are.0, lt-ltb 0 (length (tokens line)) are.0.some)
    (ap (λ (l : List Numbered). record { number = n; bytes = line } ∷ l) (all_counted (n + 1) rest are.1))

pub text_lines_are : (ls : List (List ℕ)) → AreLines ls → text_lines (joined_lines ls) ≡ numbered_from 1 ls
text_lines_are ls are = ap (λ (l : List (List ℕ)). counted_lines (numbered_from 1 l)) (lines_joined ls are) ∙ all_counted 1 ls are
