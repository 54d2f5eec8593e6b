-- The rows of a block, word by word.
use Rattle.std.proofs.Common.{◌≡◌, ◌≢◌, ◌+◌, ◌-◌, ◌*◌, ◌<◌, ◌≤◌, ℕ, zero, suc, List, [], ◌∷◌, ◌++◌, length, map, take, drop, Ok, refl, sym, ap, ◌∙◌, arith, lit<, lit≤, ne_eqb}
use Rattle.std.proofs.lemmas.List.{drop_all, length-append, take_all}
use Rattle.spec_text.specs.declared.decimals.Decimal.{Decimal}
use Rattle.spec_text.specs.Lines.{tokens}
use Rattle.spec_text.proofs.Printed.{from_append, from_less, no_separators}
use Rattle.spec_text.proofs.TokenLemmas.{first_token, last_token}
use Rattle.spec_ephemeris.specs.Ephemeris.{Ephemeris}
use Rattle.spec_files.specs.Sections.{FileLine, FileWord, first_words, lines_after, word_of}
use Rattle.spec_files.proofs.WordSections.{length_first}
use Rattle.spec_files.specs.BlockRules.{number_rule, trailing_rule}
use Rattle.spec_files.specs.Blocks.{further_words, numbers_of, zeros_of}
use Rattle.spec_generated.specs.Blocks.{numbers_from, rows_from}
use Rattle.spec_generated.proofs.BlockWords.{IsWord}
use Rattle.spec_generated.proofs.Lines.{AreShortLines, IsShortLine, lines_at}

-- ---- rows as lines
abbrev line_at : ℕ → (ℕ → List ℕ) → ℕ → FileLine
line_at k word place = record { file = 0; number = k; words = word place ∷ word (place + 1) ∷ word (place + 2) ∷ [] }

-- so many rows, the first of which is line k and begins at this place
unfoldable pub rows_at : ℕ → (ℕ → List ℕ) → ℕ → ℕ → List FileLine
rows_at k word place zero = []
rows_at k word place (suc rows) = line_at k word place ∷ rows_at (k + 1) word (place + 3) rows

row_tokens : (a b c : List ℕ) → IsWord a → IsWord b → IsWord c → tokens (a ++ 32 ∷ (b ++ 32 ∷ c)) ≡ a ∷ b ∷ c ∷ []
row_tokens a b c a_is b_is c_is =
    first_token a 32 (b ++ 32 ∷ c) (no_separators a a_is.bytes) a_is.some refl
    ∙ ap (λ (l : List (List ℕ)). a ∷ l) (first_token b 32 c (no_separators b b_is.bytes) b_is.some refl)
    ∙ ap (λ (l : List (List ℕ)). a ∷ b ∷ l) (last_token c (no_separators c c_is.bytes) c_is.some)

row_short : (a b c : List ℕ) → IsWord a → IsWord b → IsWord c → IsShortLine (a ++ 32 ∷ (b ++ 32 ∷ c))
row_short a b c a_is b_is c_is =
    let c_from = from_less 33 32 c (lit≤ tt) c_is.bytes in
    let b_from = from_append 32 b (32 ∷ c) (from_less 33 32 b (lit≤ tt) b_is.bytes) (lit≤ tt, c_from) in
    record {
      bytes = from_append 32 a (32 ∷ (b ++ 32 ∷ c)) (from_less 33 32 a (lit≤ tt) a_is.bytes) (lit≤ tt, b_from);
      short = omega (arith, length-append a (32 ∷ (b ++ 32 ∷ c)), length-append b (32 ∷ c), a_is.short, b_is.short, c_is.short);
      some = rw (row_tokens a b c a_is b_is c_is) (lit< tt);
    }

pub rows_short : (word : ℕ → List ℕ) (place rows : ℕ) → ((p : ℕ) → IsWord (word p)) → AreShortLines (rows_from word place rows)
unfolding rows_from
rows_short word place zero are = tt
rows_short word place (suc rows) are =
    (row_short (word place) (word (place + 1)) (word (place + 2)) (are place) (are (place + 1)) (are (place + 2)), rows_short word (place + 3) rows are)

pub lines_rows : (k : ℕ) (word : ℕ → List ℕ) (place rows : ℕ) → ((p : ℕ) → IsWord (word p)) → lines_at k (rows_from word place rows) ≡ rows_at k word place rows
unfolding rows_from rows_at lines_at
lines_rows k word place zero are = refl
lines_rows k word place (suc rows) are =
    let read = row_tokens (word place) (word (place + 1)) (word (place + 2)) (are place) (are (place + 1)) (are (place + 2)) in
    let line : List (List ℕ) → FileLine = λ ws. record { file = 0; number = k; words = ws } in
    λ i. line (read i) ∷ lines_rows (k + 1) word (place + 3) rows are i

-- ---- words of rows: all rows but the last have three that are wanted, and the last has one
left_is : (rows : ℕ) → 3 * suc rows + 1 - 3 ≡ 3 * rows + 1
left_is rows = omega arith

not_none : (rows : ℕ) → 3 * suc rows + 1 ≢ 0
not_none rows e = omega (arith, e)

pub count_is : (rows k : ℕ) (word : ℕ → List ℕ) (place : ℕ) → length (first_words (3 * rows + 1) (rows_at k word place (suc rows))) ≡ 3 * rows + 1
unfolding rows_at
count_is zero k word place = refl
count_is (suc rows) k word place =
    let rest = rows_at (k + 1) word (place + 3) (suc rows) in
    let size = length_first (3 * suc rows + 1) (line_at k word place) rest in
    let same : length (first_words (3 * suc rows + 1 - 3) rest) ≡ 3 * rows + 1 =
    ap (λ (n : ℕ). length (first_words n rest)) (left_is rows) ∙ count_is rows (k + 1) word (place + 3) in
    size ∙ omega (arith, same)

pub none_after : (rows k : ℕ) (word : ℕ → List ℕ) (place : ℕ) → lines_after (3 * rows + 1) (rows_at k word place (suc rows)) ≡ []
unfolding rows_at
none_after zero k word place = refl
none_after (suc rows) k word place =
    rw (ne_eqb (3 * suc rows + 1) 0 (not_none rows), left_is rows) (none_after rows (k + 1) word (place + 3))

-- the last row has two words more
zeros_are : (k : ℕ) (a b : List ℕ) → trailing_rule a ≡ Ok tt → trailing_rule b ≡ Ok tt
    → zeros_of (record { file = 0; line = k; text = a } ∷ record { file = 0; line = k; text = b } ∷ []) ≡ Ok tt
zeros_are k a b first second = rw (first, second) refl

pub rows_zeros : (rows k : ℕ) (word : ℕ → List ℕ) (place : ℕ) → trailing_rule (word (place + 3 * rows + 1)) ≡ Ok tt → trailing_rule (word (place + 3 * rows + 2)) ≡ Ok tt
    → zeros_of (further_words (3 * rows + 1) (rows_at k word place (suc rows))) ≡ Ok tt
unfolding rows_at
rows_zeros zero k word place first second =
    let one : place + 1 ≡ place + 3 * 0 + 1 = omega arith in
    let two : place + 2 ≡ place + 3 * 0 + 2 = omega arith in
    zeros_are k (word (place + 1)) (word (place + 2)) (ap (λ (p : ℕ). trailing_rule (word p)) one ∙ first) (ap (λ (p : ℕ). trailing_rule (word p)) two ∙ second)
rows_zeros (suc rows) k word place first second =
    let here : drop (3 * suc rows + 1) (word place ∷ word (place + 1) ∷ word (place + 2) ∷ []) ≡ [] = drop_all (3 * suc rows + 1) (word place ∷ word (place + 1) ∷ word (place + 2) ∷ []) (omega arith) in
    let one : place + 3 + 3 * rows + 1 ≡ place + 3 * suc rows + 1 = omega arith in
    let two : place + 3 + 3 * rows + 2 ≡ place + 3 * suc rows + 2 = omega arith in
    rw (ne_eqb (3 * suc rows + 1) 0 (not_none rows), left_is rows, here)
    (rows_zeros rows (k + 1) word (place + 3) (ap (λ (p : ℕ). trailing_rule (word p)) one ∙ first) (ap (λ (p : ℕ). trailing_rule (word p)) two ∙ second))

-- ---- numbers
pub numbers_snoc : (number : ℕ → Decimal) (place n : ℕ) → numbers_from number place n ++ number (place + n) ∷ [] ≡ numbers_from number place (n + 1)
unfolding numbers_from
numbers_snoc number place zero = let same : place + 0 ≡ place = omega arith in ap (λ (p : ℕ). number p ∷ []) same
numbers_snoc number place (suc n) =
    let same : place + suc n ≡ place + 1 + n = omega arith in
    let more : suc (n + 1) ≡ suc n + 1 = omega arith in
    ap (λ (p : ℕ). number place ∷ (numbers_from number (place + 1) n ++ number p ∷ [])) same
    ∙ ap (λ (l : List Decimal). number place ∷ l) (numbers_snoc number (place + 1) n) ∙ ap (numbers_from number place) more

-- each word meets its rule after the numbers before it
abbrev pub AreNumbers : Ephemeris → (ℕ → List ℕ) → (ℕ → Decimal) → Type 0
AreNumbers before word number = (q : ℕ) → q < 1018 → number_rule before (numbers_from number 1 q) (word (q + 1)) ≡ Ok (number (q + 1))

module _ (before : Ephemeris) (word : ℕ → List ℕ) (number : ℕ → Decimal) (are : AreNumbers before word number) where
  one_more : (q p k : ℕ) (words : List FileWord) → q < 1018 → p ≡ q + 1
      → numbers_of before (numbers_from number 1 q) (record { file = 0; line = k; text = word p } ∷ words) ≡ numbers_of before (numbers_from number 1 p) words
  one_more q p k words below is =
      let place : q + 1 ≡ 1 + q = omega arith in
      let numbers : numbers_from number 1 q ++ number (q + 1) ∷ [] ≡ numbers_from number 1 p =
      ap (λ (n : ℕ). numbers_from number 1 q ++ number n ∷ []) place ∙ numbers_snoc number 1 q ∙ ap (numbers_from number 1) (sym is) in
      let rule : number_rule before (numbers_from number 1 q) (word p) ≡ Ok (number (q + 1)) =
      ap (λ (n : ℕ). number_rule before (numbers_from number 1 q) (word n)) is ∙ are q below in
      rw (rule) (ap (λ (l : List Decimal). numbers_of before l words) numbers)

  pub rows_numbers : (rows q k : ℕ) → q + (3 * rows + 1) ≤ 1018
      → numbers_of before (numbers_from number 1 q) (first_words (3 * rows + 1) (rows_at k word (q + 1) (suc rows))) ≡ Ok (numbers_from number 1 (q + (3 * rows + 1)))
  unfolding rows_at
  rows_numbers zero q k within = one_more q (q + 1) k [] (omega (arith, within)) refl
  rows_numbers (suc rows) q k within =
      let p = q + 1 in
      let rest = rows_at (k + 1) word (p + 3) (suc rows) in
      let line = line_at k word p in
      let all : take (3 * suc rows + 1) (word p ∷ word (p + 1) ∷ word (p + 2) ∷ []) ≡ word p ∷ word (p + 1) ∷ word (p + 2) ∷ [] =
      take_all (3 * suc rows + 1) (word p ∷ word (p + 1) ∷ word (p + 2) ∷ []) (omega arith) in
      let words = first_words (3 * rows + 1) rest in
      let next : p + 3 ≡ p + 2 + 1 = omega arith in
      let end : p + 2 + (3 * rows + 1) ≡ q + (3 * suc rows + 1) = omega arith in
      (λ i. numbers_of before (numbers_from number 1 q) (map (word_of line) (all i) ++ first_words (left_is rows i) rest))
      ∙ one_more q p k (word_of line (word (p + 1)) ∷ word_of line (word (p + 2)) ∷ words) (omega (arith, within)) refl
      ∙ one_more p (p + 1) k (word_of line (word (p + 2)) ∷ words) (omega (arith, within)) refl
      ∙ one_more (p + 1) (p + 2) k words (omega (arith, within)) (omega arith)
      ∙ ap (λ (n : ℕ). numbers_of before (numbers_from number 1 (p + 2)) (first_words (3 * rows + 1) (rows_at (k + 1) word n (suc rows)))) next
      ∙ rows_numbers rows (p + 2) (k + 1) (omega (arith, within))
      ∙ ap (λ (n : ℕ). Ok (numbers_from number 1 n)) end
