-- The numbers of an accepted header are within bounds.
use Rattle.std.proofs.Common.{◌≡◌, ℕ, ◌*◌, ◌≤◌, Bool, true, false, List, Option, None, Some, Result, Ok, Err, inl, inr, arith, ne_eqb, if◌then◌else◌}
use Rattle.std.specs.Prelude.{slice_get}
use Rattle.std.proofs.lemmas.Bool.{cases_Bool, cases_eq, cases_lt, lt-ltb, le-ltb}
use Rattle.spec_text.specs.declared.limits.TheConstants.{DAY_SECONDS}
use Rattle.spec_text.specs.Reading.{reading, whole_at}
use Rattle.spec_text.specs.declared.decimals.Decimal.{Decimal}
use Rattle.spec_text.specs.declared.decimals.NumberFault.{NumberFault}
use Rattle.spec_ephemeris.specs.declared.limits.TheConstants.{MIN_NUMBERS, MAX_NUMBERS}
use Rattle.spec_faults.specs.declared.numbers.TheConstants.{ENDED}
use Rattle.spec_files.specs.declared.limits.TheConstants.{MAX_BLOCK_DAYS}
use Rattle.spec_files.specs.HeaderLines.{mass_ratio_among, mass_ratio_at}
use Rattle.spec_files.specs.HeaderRules.{block_length, days_by, decimal_at, decimal_by, first_line, is_mass_ratio, mass_ratio_of, ncoeff_of, not_none, span}
use Rattle.spec_text.specs.Days.{seconds_of_julian_date, seconds_within}
use Rattle.spec_text.proofs.Spans.{seconds_few}
use Rattle.spec_text.specs.declared.days.DaysFault.{DaysFault}
use Rattle.spec_files.specs.Sections.{FileLine, FileWord, Stop, ◌>>=◌, at_line, after_words, first_words}
use Rattle.spec_files.proofs.Holding.{Holds, holds_ok, then_any}

abbrev pub IsNcoeff : ℕ → Type 0
IsNcoeff n = (MIN_NUMBERS ≤ n) × (n ≤ MAX_NUMBERS)

ncoeff_holds : (o : Option ℕ) → Holds IsNcoeff (ncoeff_of o)
ncoeff_holds None = tt
ncoeff_holds (Some n) = elim (cases_lt n MIN_NUMBERS) [
  | inl few ↦ rw (lt-ltb n MIN_NUMBERS few) tt
  | inr enough ↦ elim (cases_lt MAX_NUMBERS n) [
    | inl many ↦ rw (le-ltb n MIN_NUMBERS enough, lt-ltb MAX_NUMBERS n many) tt
    | inr most ↦ rw (le-ltb n MIN_NUMBERS enough, le-ltb MAX_NUMBERS n most) (enough, most)
  ]
]

either : {A E : Type 0} (Q : A → Type 0) (c : Bool) (r : Result A E) (e : E) → Holds Q r → Holds Q (if c then r else Err e)
either Q true r e holds = holds
either Q false r e holds = tt

pub first_line_holds : (words : List (List ℕ)) → Holds IsNcoeff (first_line words)
first_line_holds words = either IsNcoeff _ (ncoeff_of (whole_at (slice_get words 3))) _ (ncoeff_holds (whole_at (slice_get words 3)))

abbrev pub IsBlock : ℕ → Type 0
IsBlock s = (1 ≤ s) × (s ≤ DAY_SECONDS * MAX_BLOCK_DAYS)

some_seconds : (s : ℕ) → s ≤ DAY_SECONDS * MAX_BLOCK_DAYS → Holds IsBlock (not_none s)
some_seconds s most = elim (cases_eq s 0) [
  | inl none ↦ rw none tt
  | inr some ↦ rw (ne_eqb s 0 some) (omega (arith, some), most)
]

days_hold : (Q : ℕ → Type 0) (r : Result ℕ DaysFault) → Holds Q r → Holds Q (days_by r)
days_hold Q (Ok s) holds = holds
days_hold Q (Err fault) holds = tt

block_holds : (d : Decimal) → Holds IsBlock (block_length d)
block_holds d =
    then_any IsBlock (days_by (seconds_within MAX_BLOCK_DAYS d)) not_none (λ s is.
    some_seconds s (holds_ok (λ s. s ≤ DAY_SECONDS * MAX_BLOCK_DAYS) (days_by (seconds_within MAX_BLOCK_DAYS d)) s is
    (days_hold (λ s. s ≤ DAY_SECONDS * MAX_BLOCK_DAYS) (seconds_within MAX_BLOCK_DAYS d) (seconds_few MAX_BLOCK_DAYS d))))

pub span_holds : (words : List (List ℕ)) → Holds IsBlock (span words)
span_holds words =
    then_any IsBlock (decimal_at (slice_get words 0)) _ (λ start a.
    then_any IsBlock (days_by (seconds_of_julian_date start)) _ (λ first b.
    then_any IsBlock (decimal_at (slice_get words 1)) _ (λ final c.
    then_any IsBlock (days_by (seconds_of_julian_date final)) _ (λ last e.
    then_any IsBlock (decimal_at (slice_get words 2)) _ (λ days f. block_holds days)))))

module _ {B : Type 0} (Q : B → Type 0) (k : Decimal × List FileLine → Result B Stop) (all : (x : Decimal × List FileLine) → is_mass_ratio x.0 ≡ true → Holds Q (k x)) where
  after_ratio : (d : Decimal) (b : Result (List FileLine) Stop) → is_mass_ratio d ≡ true → Holds Q ((b >>= λ rest. Ok (d, rest)) >>= k)
  after_ratio d (Ok rest) is = all (d, rest) is
  after_ratio d (Err e) is = tt

  read_ratio : (file line : ℕ) (r : Result Decimal NumberFault) (b : Result (List FileLine) Stop)
      → Holds Q ((at_line file line (decimal_by r >>= mass_ratio_of) >>= λ d. b >>= λ rest. Ok (d, rest)) >>= k)
  read_ratio file line (Err f) b = tt
  read_ratio file line (Ok d) b = elim (cases_Bool (is_mass_ratio d)) [
    | inl is ↦ rw is (after_ratio d b is)
    | inr other ↦ rw other tt
  ]

  ratio_at : (o : Option FileWord) (b : Result (List FileLine) Stop) → Holds Q ((mass_ratio_at o >>= λ d. b >>= λ rest. Ok (d, rest)) >>= k)
  ratio_at None b = tt
  ratio_at (Some word) b = read_ratio word.file word.line (reading word.text) b

  pub then_ratio : (n place : ℕ) (lines : List FileLine) → Holds Q (mass_ratio_among n place lines >>= k)
  then_ratio n place lines = ratio_at (slice_get (first_words n lines) place) (after_words ENDED n lines)
