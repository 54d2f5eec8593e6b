-- The words of a block as numbers that meet their rules.
use Rattle.std.proofs.Common.{◌≡◌, ◌⊎◌, ℕ, zero, suc, ◌+◌, ◌<◌, List, [], ◌∷◌, ◌++◌, length, Some, Result, Ok, Err, refl, sym, ap, ◌∙◌, subst, inl, inr, arith}
use Rattle.std.specs.Prelude.{slice_get}
use Rattle.std.proofs.lemmas.List.{length-append, take-append-le, take_all}
use Rattle.std.proofs.lemmas.Option.{none-some, same_Some}
use Rattle.std.proofs.lemmas.Int.{ints}
use Rattle.spec_text.specs.Reading.{reading}
use Rattle.spec_text.specs.declared.decimals.Decimal.{Decimal}
use Rattle.spec_text.specs.declared.decimals.NumberFault.{NumberFault}
use Rattle.spec_text.proofs.Answering.{bounds, reads_by}
use Rattle.spec_ephemeris.specs.Ephemeris.{Ephemeris}
use Rattle.spec_ephemeris.specs.Series.{IsInUnits}
use Rattle.spec_files.specs.declared.rules.BrokenRule.{BrokenRule}
use Rattle.spec_files.specs.Sections.{FileLine, FileWord, ◌>>=◌, at_line, after_words, first_words, one_line}
use Rattle.spec_files.proofs.Holding.{Holds, all_words, at_holds, holds_ok, then_any}
use Rattle.spec_faults.specs.declared.numbers.TheConstants.{TRUNCATED}
use Rattle.spec_files.specs.BlockRules.{number_by, number_rule, record_line, value_rule}
use Rattle.spec_files.specs.Blocks.{block, further_words, numbers_of, zeros_of}
use Rattle.spec_files.specs.Read.{AreRead}

get_snoc : {X : Type 0} (xs : List X) (x : X) (i : ℕ) (y : X) → slice_get (xs ++ x ∷ []) i ≡ Some y
    → ((i < length xs) × (slice_get xs i ≡ Some y)) ⊎ ((i ≡ length xs) × (x ≡ y))
get_snoc [] x zero y at = inr (refl, same_Some x y at)
get_snoc [] x (suc i) y at = absurd (none-some y at)
get_snoc (z ∷ xs) x zero y at = inl (omega arith, at)
get_snoc (z ∷ xs) x (suc i) y at = elim (get_snoc xs x i y at) [
  | inl earlier ↦ inl (omega (arith, earlier.0), earlier.1)
  | inr last ↦ inr (ap suc last.0, last.1)
]

pub none_read : (before : Ephemeris) → AreRead before []
none_read before = record { rules = λ place d at. absurd (none-some d at); in_units = λ place d at. absurd (none-some d at) }

pub read_more : (before : Ephemeris) (numbers : List Decimal) (d : Decimal) → AreRead before numbers → value_rule before numbers d ≡ Ok tt → IsInUnits d
    → AreRead before (numbers ++ d ∷ [])
read_more before numbers d read rule units = record {
  rules = λ place e at. elim (get_snoc numbers d place e at) [
    | inl earlier ↦
        ap (λ (l : List Decimal). value_rule before l e) (take-append-le place numbers (d ∷ []) (omega (arith, earlier.0)))
        ∙ read.rules place e earlier.1
    | inr last ↦
        ap (λ (l : List Decimal). value_rule before l e)
        (take-append-le place numbers (d ∷ []) (omega (arith, last.0)) ∙ take_all place numbers (omega (arith, last.0)))
        ∙ ap (value_rule before numbers) (sym last.1) ∙ rule
  ];
  in_units = λ place e at. elim (get_snoc numbers d place e at) [
    | inl earlier ↦ read.in_units place e earlier.1
    | inr last ↦ subst IsInUnits last.1 units
  ];
}

pub units_of_reading : (word : List ℕ) (d : Decimal) → reading word ≡ Ok d → IsInUnits d
units_of_reading word d is = let kept = bounds word d (reads_by word (Ok d) (sym is)) in omega (arith, ints, kept.exp_low)

-- a number that meets its rule
abbrev pub Meets : Ephemeris → List Decimal → Decimal → Type 0
Meets before numbers d = (value_rule before numbers d ≡ Ok tt) × IsInUnits d

module _ (before : Ephemeris) (numbers : List Decimal) where
  by_rule : (d : Decimal) (v : Result (Unit {0}) BrokenRule) → IsInUnits d → value_rule before numbers d ≡ v → Holds (Meets before numbers) (v >>= λ meets. Ok d)
  by_rule d (Ok u) units is = (is, units)
  by_rule d (Err b) units is = tt

  by_reading : (r : Result Decimal NumberFault) → ((d : Decimal) → r ≡ Ok d → IsInUnits d)
      → Holds (Meets before numbers) (number_by r >>= λ d. value_rule before numbers d >>= λ meets. Ok d)
  by_reading (Ok d) units = by_rule d (value_rule before numbers d) (units d refl) refl
  by_reading (Err f) units = tt

  pub number_holds : (word : List ℕ) → Holds (Meets before numbers) (number_rule before numbers word)
  number_holds word = by_reading (reading word) (units_of_reading word)

-- the numbers that a block has so far
abbrev pub Counted : Ephemeris → ℕ → List Decimal → Type 0
Counted before n all = AreRead before all × (length all ≡ n)

pub numbers_hold : (before : Ephemeris) (numbers : List Decimal) (words : List FileWord) → AreRead before numbers
    → Holds (Counted before (length numbers + length words)) (numbers_of before numbers words)
numbers_hold before numbers [] read = (read, omega arith)
numbers_hold before numbers (word ∷ words) read =
    then_any (Counted before (length numbers + length (word ∷ words))) (at_line word.file word.line (number_rule before numbers word.text)) _ (λ d is.
    let meets = holds_ok (Meets before numbers) _ d is (at_holds (Meets before numbers) word.file word.line _ (number_holds before numbers word.text)) in
    let count : length (numbers ++ d ∷ []) + length words ≡ length numbers + length (word ∷ words) = omega (arith, length-append numbers (d ∷ [])) in
    subst (λ (n : ℕ). Holds (Counted before n) (numbers_of before (numbers ++ d ∷ []) words)) count
    (numbers_hold before (numbers ++ d ∷ []) words (read_more before numbers d read meets.0 meets.1)))

pub block_holds : (before : Ephemeris) (lines : List FileLine) → Holds (λ found. Counted before before.header.ncoeff found.0) (block before lines)
block_holds before lines =
    let n = before.header.ncoeff in
    then_any (λ (found : List Decimal × List FileLine). Counted before n found.0) (one_line TRUNCATED (record_line n) lines) _ (λ heading a.
    then_any (λ (found : List Decimal × List FileLine). Counted before n found.0) (numbers_of before [] (first_words n heading.1)) _ (λ all b.
    then_any (λ (found : List Decimal × List FileLine). Counted before n found.0) (zeros_of (further_words n heading.1)) _ (λ zeros c.
    then_any (λ (found : List Decimal × List FileLine). Counted before n found.0) (after_words TRUNCATED n heading.1) _ (λ rest d.
    let counted = holds_ok _ _ all b (numbers_hold before [] (first_words n heading.1) (none_read before)) in
    (counted.0, omega (arith, counted.1, holds_ok (λ (rest : List FileLine). length (first_words n heading.1) ≡ n) _ rest d (all_words TRUNCATED n heading.1)))))))
