-- A line within a block, and what the block wants after it.
use Rattle.std.proofs.Common.{◌≡◌, ◌≢◌, ℕ, ◌+◌, ◌-◌, ◌<◌, ◌≤◌, min, List, [], ◌∷◌, ◌++◌, length, map, take, drop, Result, Ok, Err, refl, sym, ap, ◌∙◌, arith, ne_eqb}
use Rattle.std.proofs.lemmas.List.{length-append, length-take, length-drop}
use Rattle.spec_text.specs.declared.decimals.Decimal.{Decimal}
use Rattle.spec_ephemeris.specs.Ephemeris.{Ephemeris}
use Rattle.spec_files.specs.declared.rules.BrokenRule.{BrokenRule}
use Rattle.spec_files.specs.Sections.{FileLine, FileWord, Stop, ◌>>=◌, at_line, after_words, first_words, word_of}
use Rattle.spec_files.proofs.Steps.{bind_assoc, bind_at, bind_same}
use Rattle.spec_files.proofs.WordSections.{after_no_words, after_words_of_line, no_words}
use Rattle.spec_files.proofs.Holding.{holds_also, Holds, holds_ok, then_any}
use Rattle.spec_faults.specs.declared.numbers.TheConstants.{TRUNCATED}
use Rattle.spec_files.specs.BlockRules.{number_rule, trailing_rule}
use Rattle.spec_files.specs.Blocks.{further_numbers, further_words, numbers_of, zeros_of}
use Rattle.spec_files.specs.Read.{AreRead}
use Rattle.spec_files.proofs.FurtherWords.{none_further}
use Rattle.spec_files.proofs.Numbers.{Counted, Meets, number_holds, read_more}
use Rattle.de_blocks.specs.Steps.{numbers_on, on_line, wanted, zeros_on}

-- ---- words one after the other
numbers_append : (before : Ephemeris) (numbers : List Decimal) (xs ys : List FileWord)
    → numbers_of before numbers (xs ++ ys) ≡ (numbers_of before numbers xs >>= λ mid. numbers_of before mid ys)
numbers_append before numbers [] ys = refl
numbers_append before numbers (x ∷ xs) ys =
    let r = at_line x.file x.line (number_rule before numbers x.text) in
    bind_same r _ _ (λ d is. numbers_append before (numbers ++ d ∷ []) xs ys)
    ∙ sym (bind_assoc r (λ d. numbers_of before (numbers ++ d ∷ []) xs) (λ mid. numbers_of before mid ys))

numbers_here : (before : Ephemeris) (numbers : List Decimal) (line : FileLine) (words : List (List ℕ))
    → numbers_of before numbers (map (word_of line) words) ≡ at_line line.file line.number (numbers_on before numbers words)
numbers_here before numbers line [] = refl
numbers_here before numbers line (word ∷ words) =
    bind_same (at_line line.file line.number (number_rule before numbers word)) _ _ (λ d is. numbers_here before (numbers ++ d ∷ []) line words)
    ∙ bind_at line.file line.number (number_rule before numbers word) (λ d. numbers_on before (numbers ++ d ∷ []) words)

zeros_append : (xs ys : List FileWord) → zeros_of (xs ++ ys) ≡ (zeros_of xs >>= λ zero. zeros_of ys)
zeros_append [] ys = refl
zeros_append (x ∷ xs) ys =
    let r = at_line x.file x.line (trailing_rule x.text) in
    bind_same r _ _ (λ u is. zeros_append xs ys) ∙ sym (bind_assoc r (λ u. zeros_of xs) (λ u. zeros_of ys))

zeros_here : (line : FileLine) (words : List (List ℕ)) → zeros_of (map (word_of line) words) ≡ at_line line.file line.number (zeros_on words)
zeros_here line [] = refl
zeros_here line (word ∷ words) =
    bind_same (at_line line.file line.number (trailing_rule word)) _ _ (λ u is. zeros_here line words)
    ∙ bind_at line.file line.number (trailing_rule word) (λ u. zeros_on words)

-- ---- the numbers of a line
pub on_holds : (before : Ephemeris) (numbers : List Decimal) (words : List (List ℕ)) → AreRead before numbers
    → Holds (Counted before (length numbers + length words)) (numbers_on before numbers words)
on_holds before numbers [] read = (read, omega arith)
on_holds before numbers (word ∷ words) read =
    then_any (Counted before (length numbers + length (word ∷ words))) (number_rule before numbers word) _ (λ d is.
    let meets = holds_ok (Meets before numbers) _ d is (number_holds before numbers word) in
    let count : length (numbers ++ d ∷ []) + length words ≡ length numbers + length (word ∷ words) = omega (arith, length-append numbers (d ∷ [])) in
    holds_also (Counted before (length (numbers ++ d ∷ []) + length words)) (Counted before (length numbers + length (word ∷ words))) _
    (λ all counted. (counted.0, counted.1 ∙ count)) (on_holds before (numbers ++ d ∷ []) words (read_more before numbers d read meets.0 meets.1)))

-- what is known where a line meets its rules
pub record Accepted (before : Ephemeris) (numbers : List Decimal) (words : List (List ℕ)) (all : List Decimal) : Type 0 where
  pub read : AreRead before all
  pub count : length all ≡ length numbers + min (wanted before numbers) (length words)
  pub here : numbers_on before numbers (take (wanted before numbers) words) ≡ Ok all
  pub zeros : zeros_on (drop (wanted before numbers) words) ≡ Ok tt

pub accepted : (before : Ephemeris) (numbers : List Decimal) (words : List (List ℕ)) → AreRead before numbers → Holds (Accepted before numbers words) (on_line before numbers words)
accepted before numbers words read =
    let k = wanted before numbers in
    then_any (Accepted before numbers words) (numbers_on before numbers (take k words)) _ (λ all is.
    then_any (Accepted before numbers words) (zeros_on (drop k words)) _ (λ zero zeros.
    let counted = holds_ok (Counted before (length numbers + length (take k words))) (numbers_on before numbers (take k words)) all is (on_holds before numbers (take k words) read) in
    record { read = counted.0; count = counted.1 ∙ ap (λ (m : ℕ). length numbers + m) (length-take k words); here = is; zeros = zeros }))

abbrev err_or : {A : Type 0} → BrokenRule → Result A BrokenRule → BrokenRule
err_or b (Ok x) = b
err_or b (Err e) = e

-- ---- a line, and what is wanted after it
module _ (before : Ephemeris) (numbers : List Decimal) (line : FileLine) (rest : List FileLine) (some : 0 < wanted before numbers) where
  abbrev k : ℕ
  k = wanted before numbers

  abbrev here : Result (List Decimal) BrokenRule
  here = numbers_on before numbers (take k line.words)

  -- the numbers, the zeros and the lines after, each after those of this line
  abbrev apart : Result (List Decimal × List FileLine) Stop
  apart =
      (at_line line.file line.number here >>= λ mid. numbers_of before mid (first_words (k - length line.words) rest)) >>= λ all.
      (at_line line.file line.number (zeros_on (drop k line.words)) >>= λ zero. zeros_of (further_words (k - length line.words) rest)) >>= λ zeros.
      after_words TRUNCATED (k - min k (length line.words)) rest >>= λ after. Ok (all, after)

  pub is_apart : further_numbers before k numbers (line ∷ rest) ≡ apart
  is_apart =
      let not_none : k ≢ 0 = λ e. omega (arith, e, some) in
      let first : numbers_of before numbers (first_words k (line ∷ rest))
      ≡ (at_line line.file line.number here >>= λ mid. numbers_of before mid (first_words (k - length line.words) rest)) =
      numbers_append before numbers (map (word_of line) (take k line.words)) (first_words (k - length line.words) rest)
      ∙ ap (λ (r : Result (List Decimal) Stop). r >>= λ mid. numbers_of before mid (first_words (k - length line.words) rest))
      (numbers_here before numbers line (take k line.words)) in
      let second : zeros_of (further_words k (line ∷ rest))
      ≡ (at_line line.file line.number (zeros_on (drop k line.words)) >>= λ zero. zeros_of (further_words (k - length line.words) rest)) =
      rw (ne_eqb k 0 not_none) (zeros_append (map (word_of line) (drop k line.words)) (further_words (k - length line.words) rest)
      ∙ ap (λ (r : Result (Unit {0}) Stop). r >>= λ zero. zeros_of (further_words (k - length line.words) rest)) (zeros_here line (drop k line.words))) in
      let third = after_words_of_line TRUNCATED k (min k (length line.words)) line rest some refl in
      λ i. first i >>= λ all. second i >>= λ zeros. third i >>= λ after. Ok (all, after)

  -- a line that leaves the block open
  pub goes_on : (all : List Decimal) → Accepted before numbers line.words all → length all < before.header.ncoeff
      → further_numbers before k numbers (line ∷ rest) ≡ further_numbers before (wanted before all) all rest
  goes_on all is few =
      let fewer : length line.words < k = omega (arith, is.count, few) in
      let left : k - length line.words ≡ wanted before all = omega (arith, is.count, fewer) in
      let least : k - min k (length line.words) ≡ wanted before all = omega (arith, is.count, fewer) in
      is_apart ∙ rw (is.here, is.zeros, left, least) refl

  -- a line that makes the block whole
  pub ends : (all : List Decimal) → Accepted before numbers line.words all → length all ≡ before.header.ncoeff
      → further_numbers before k numbers (line ∷ rest) ≡ Ok (all, rest)
  ends all is whole =
      let enough : k ≤ length line.words = omega (arith, is.count, whole) in
      let left : k - length line.words ≡ 0 = omega (arith, enough) in
      let least : k - min k (length line.words) ≡ 0 = omega (arith, enough) in
      is_apart
      ∙ rw (
        is.here,
        is.zeros,
        no_words (k - length line.words) rest left,
        none_further (k - length line.words) rest left,
        after_no_words TRUNCATED (k - min k (length line.words)) rest least,
      ) refl

  broken_zeros : (all : List Decimal) (b : BrokenRule) (words : List (List ℕ)) → zeros_on words ≡ Err b → 0 < length words
  broken_zeros all b [] is = absurd (cc)
  broken_zeros all b (word ∷ words) is = omega arith

  abbrev broken_at : BrokenRule → Result (List Decimal × List FileLine) Stop
  broken_at b = at_line line.file line.number (Err b)

  -- a line that breaks a rule
  breaks_by : (r : Result (List Decimal) BrokenRule) (z : Result (Unit {0}) BrokenRule) (b : BrokenRule) → r ≡ here → z ≡ zeros_on (drop k line.words)
      → (r >>= λ all. z >>= λ zero. Ok all) ≡ Err b → further_numbers before k numbers (line ∷ rest) ≡ broken_at b
  breaks_by (Err e) z b r_is z_is is =
      let same : e ≡ b = ap (λ (r : Result (List Decimal) BrokenRule). err_or b r) is in
      is_apart ∙ rw (← r_is) (ap broken_at same)
  breaks_by (Ok all) (Err e) b r_is z_is is =
      let same : e ≡ b = ap (λ (r : Result (List Decimal) BrokenRule). err_or b r) is in
      let some_words : 0 < length (drop k line.words) = broken_zeros all e (drop k line.words) (sym z_is) in
      let left : k - length line.words ≡ 0 = omega (arith, some_words, length-drop k line.words) in
      is_apart ∙ rw (← r_is, ← z_is, no_words (k - length line.words) rest left) (ap broken_at same)
  breaks_by (Ok all) (Ok z) b r_is z_is is = absurd (cc)

  pub breaks : (b : BrokenRule) → on_line before numbers line.words ≡ Err b → further_numbers before k numbers (line ∷ rest) ≡ broken_at b
  breaks b is = breaks_by here (zeros_on (drop k line.words)) b refl refl is
