-- What a reader says after a line.
use Rattle.std.proofs.Common.{◌≡◌, ℕ, ◌<◌, ◌≤◌, List, [], ◌∷◌, length, Result, Ok, Err, refl, sym, ap, ◌∙◌, subst, inl, inr, arith, eq-eqb, ne_eqb}
use Rattle.std.proofs.lemmas.Bool.{cases_eq}
use Rattle.spec_text.specs.Lines.{TokenLine}
use Rattle.spec_text.specs.declared.decimals.Decimal.{Decimal}
use Rattle.spec_text.specs.declared.decimals.Fault.{Fault}
use Rattle.spec_ephemeris.specs.Ephemeris.{Ephemeris}
use Rattle.spec_files.specs.declared.rules.BrokenRule.{BrokenRule}
use Rattle.spec_files.specs.Sections.{FileLine, Stop, ended, breaks as breaks_rule, ◌>>=◌, at_line, line_fault}
use Rattle.spec_files.proofs.Holding.{holds_ok}
use Rattle.spec_faults.specs.declared.numbers.TheConstants.{TRUNCATED}
use Rattle.spec_files.specs.BlockRules.{record_line}
use Rattle.spec_files.specs.Blocks.{blocks_after, further_numbers, with_numbers}
use Rattle.spec_files.specs.Read.{AreRead}
use Rattle.spec_files.specs.FileLines.{line_of}
use Rattle.spec_files.specs.declared.errors.ReadError.{ReadError}
use Rattle.spec_files.specs.declared.errors.ReadError.TheVariants as errors
use Rattle.de_blocks.specs.declared.state.Place.{Place}
use Rattle.de_blocks.specs.declared.state.Place.TheVariants.{Between, Inside, Refused}
use Rattle.spec_files.proofs.Blocks.{is_with}
use Rattle.spec_files.proofs.Numbers.{none_read}
use Rattle.de_blocks.specs.Steps.{TakesLine, on_line, wanted}
use Rattle.de_blocks.specs.Reader.{Ends, Fits, Progress, Says, Takes, answer, at_end, from_numbers, from_record, numbers_at, says, says_at}
use Rattle.spec_files.proofs.Steps.{bind_same, broken_by}
use Rattle.de_blocks.proofs.Enough.{enough, further_fewer}
use Rattle.de_blocks.proofs.OnLines.{Accepted, accepted, breaks, ends, goes_on}

abbrev pub at : Ephemeris → List Decimal → Place → Progress
at before numbers place = record { accepted = before; numbers = numbers; place = place }

abbrev place_of : Fault → Result (Unit {0}) ReadError → Place
place_of fault (Err (errors.Fault f)) = Refused f
place_of fault result = Refused fault

-- ---- the lines end here
pub ends_within : (before : Ephemeris) (numbers : List Decimal) → 0 < wanted before numbers → from_numbers before numbers [] ≡ Err (ended TRUNCATED)
ends_within before numbers some = rw (ne_eqb 0 (wanted before numbers) (λ e. omega (arith, e, some))) refl

pub answer_between : (before : Ephemeris) → answer (from_record before []) ≡ Ok tt
answer_between before = elim (cases_eq before.blocks 0) [
  | inl none ↦ rw (eq-eqb before.blocks 0 none) refl
  | inr some ↦ rw (ne_eqb before.blocks 0 some) refl
]

-- ---- a record line
after_heading : (m : ℕ) (before : Ephemeris) (rest : List FileLine) → length rest ≤ m
    → (further_numbers before before.header.ncoeff [] rest >>= λ found. blocks_after m (with_numbers before found.0) found.1)
    ≡ (further_numbers before before.header.ncoeff [] rest >>= λ found. from_record (with_numbers before found.0) found.1)
after_heading m before rest le =
    bind_same (further_numbers before before.header.ncoeff [] rest) _ _ (λ found is.
    let fewer = holds_ok (λ found. length found.1 ≤ length rest) (further_numbers before before.header.ncoeff [] rest) found is (further_fewer before before.header.ncoeff [] rest) in
    enough m (length found.1) (with_numbers before found.0) found.1 (omega (arith, fewer, le)) (omega arith))

pub begins : (before : Ephemeris) (line : FileLine) (rest : List FileLine) → record_line before.header.ncoeff line.words ≡ Ok tt
    → from_record before (line ∷ rest) ≡ from_numbers before [] rest
begins before line rest is =
    let none : before.header.ncoeff ≡ wanted before [] = omega arith in
    rw is (after_heading (length rest) before rest (omega arith)
    ∙ ap (λ (n : ℕ). further_numbers before n [] rest >>= λ found. from_record (with_numbers before found.0) found.1) none)

pub no_record : (before : Ephemeris) (line : FileLine) (rest : List FileLine) (b : BrokenRule) → record_line before.header.ncoeff line.words ≡ Err b
    → from_record before (line ∷ rest) ≡ at_line line.file line.number (Err b)
no_record before line rest b is = rw is refl

abbrev said_broken : ℕ → Fault → Says
said_broken file fault = Err (breaks_rule file fault)

-- ---- what a line does
pub takes_record : (before : Ephemeris) (numbers : List Decimal) (place : Place) (line : TokenLine) → place ≡ Between → Fits (at before numbers place)
    → record_line before.header.ncoeff line.tokens ≡ Ok tt → Takes (at before numbers place) line (Ok tt) (at before numbers Inside)
unfolding says
takes_record before numbers place line is_between fits is =
    let none : numbers ≡ [] = sym fits.kept ∙ ap (λ (p : Place). numbers_at p numbers) is_between in
    record {
      read = λ known file rest. ap (λ (l : List Decimal). from_numbers before l rest) none ∙ sym (begins before (line_of file line) rest is)
          ∙ sym (ap (λ (p : Place). says_at file p before numbers (line_of file line ∷ rest)) is_between);
      answers = λ known. sym (ap answer (ends_within before numbers (omega (arith, fits.few))));
      goes_on = λ ok. tt;
      kept = λ fault no. absurd (cc);
      unchanged = λ no. absurd (cc);
    }

-- a line that breaks a rule
pub takes_broken : (old new : Progress) (line : TokenLine) (fault : Fault) → new.place ≡ Refused fault
    → ((file : ℕ) (rest : List FileLine) → says file old (line_of file line ∷ rest) ≡ Err (breaks_rule file fault))
    → Takes old line (Err (errors.Fault fault)) new
unfolding says
takes_broken old new line fault refused breaks_it = record {
  read = λ known file rest. ap (λ (p : Place). says_at file p new.accepted new.numbers rest) refused ∙ sym (breaks_it file rest);
  answers = λ known. sym (ap (λ (p : Place). answer (says_at 0 p new.accepted new.numbers [])) refused);
  goes_on = λ no. absurd (cc);
  kept = λ f is. refused ∙ ap (λ (r : Result (Unit {0}) ReadError). place_of fault r) is;
  unchanged = λ no. absurd (cc);
}

pub takes_more : (before after : Ephemeris) (numbers new : List Decimal) (place : Place) (line : TokenLine) → place ≡ Inside → Fits (at before numbers place)
    → on_line before numbers line.tokens ≡ Ok new → length new < before.header.ncoeff → after ≡ before
    → Takes (at before numbers place) line (Ok tt) (at after new Inside)
unfolding says
takes_more before after numbers new place line is_inside fits is few same =
    let some : 0 < wanted before numbers = omega (arith, fits.few) in
    let meets = holds_ok (Accepted before numbers line.tokens) (on_line before numbers line.tokens) new is (accepted before numbers line.tokens fits.read) in
    record {
      read = λ known file rest. ap (λ (e : Ephemeris). from_numbers e new rest) same
          ∙ sym (ap (λ (r : Result (List Decimal × List FileLine) Stop). r >>= λ found. from_record (with_numbers before found.0) found.1)
          (goes_on before numbers (line_of file line) rest some new meets few))
          ∙ sym (ap (λ (p : Place). says_at file p before numbers (line_of file line ∷ rest)) is_inside);
      answers = λ known. sym (ap (λ (e : Ephemeris). answer (from_numbers e new [])) same ∙ ap answer (ends_within before new (omega (arith, few))));
      goes_on = λ ok. tt;
      kept = λ fault no. absurd (cc);
      unchanged = λ no. absurd (cc);
    }

pub takes_whole : (before after : Ephemeris) (numbers all new : List Decimal) (place : Place) (line : TokenLine) → place ≡ Inside
    → Fits (at before numbers place) → on_line before numbers line.tokens ≡ Ok all → length all ≡ before.header.ncoeff → after ≡ with_numbers before all
    → Takes (at before numbers place) line (Ok tt) (at after new Between)
unfolding says
takes_whole before after numbers all new place line is_inside fits is whole with =
    let some : 0 < wanted before numbers = omega (arith, fits.few) in
    let meets = holds_ok (Accepted before numbers line.tokens) (on_line before numbers line.tokens) all is (accepted before numbers line.tokens fits.read) in
    record {
      read = λ known file rest. ap (λ (e : Ephemeris). from_record e rest) with
          ∙ sym (ap (λ (r : Result (List Decimal × List FileLine) Stop). r >>= λ found. from_record (with_numbers before found.0) found.1)
          (ends before numbers (line_of file line) rest some all meets whole))
          ∙ sym (ap (λ (p : Place). says_at file p before numbers (line_of file line ∷ rest)) is_inside);
      answers = λ known. sym (answer_between after);
      goes_on = λ ok. tt;
      kept = λ fault no. absurd (cc);
      unchanged = λ no. absurd (cc);
    }

pub takes_bad : (before : Ephemeris) (numbers : List Decimal) (place : Place) (new : Progress) (line : TokenLine) (b : BrokenRule) (fault : Fault) → place ≡ Inside
    → Fits (at before numbers place) → on_line before numbers line.tokens ≡ Err b → fault ≡ line_fault line.number b → new.place ≡ Refused fault
    → Takes (at before numbers place) line (Err (errors.Fault fault)) new
unfolding says
takes_bad before numbers place new line b fault is_inside fits is fault_is refused =
    takes_broken (at before numbers place) new line fault refused (λ file rest.
    ap (λ (p : Place). says_at file p before numbers (line_of file line ∷ rest)) is_inside
    ∙ ap (λ (r : Result (List Decimal × List FileLine) Stop). r >>= λ found. from_record (with_numbers before found.0) found.1)
    (breaks before numbers (line_of file line) rest (omega (arith, fits.few)) b is)
    ∙ ap (λ (f : Fault). said_broken file f) (sym fault_is))

pub takes_bad_record : (before : Ephemeris) (numbers : List Decimal) (place : Place) (new : Progress) (line : TokenLine) (b : BrokenRule) (fault : Fault)
    → place ≡ Between → record_line before.header.ncoeff line.tokens ≡ Err b → fault ≡ line_fault line.number b → new.place ≡ Refused fault
    → Takes (at before numbers place) line (Err (errors.Fault fault)) new
unfolding says
takes_bad_record before numbers place new line b fault is_between is fault_is refused =
    takes_broken (at before numbers place) new line fault refused (λ file rest.
    ap (λ (p : Place). says_at file p before numbers (line_of file line ∷ rest)) is_between
    ∙ no_record before (line_of file line) rest b is ∙ ap (λ (f : Fault). said_broken file f) (sym fault_is))

-- ---- the lines end
pub ends_refused : (old : Progress) (line : ℕ) (fault : Fault) → old.place ≡ Refused fault → Ends line (says 0 old []) (Err (errors.Fault fault))
unfolding says
ends_refused old line fault is = sym (ap (λ (p : Place). at_end line (says_at 0 p old.accepted old.numbers [])) is)

abbrev pub late : ℕ → ℕ → Fault
late line number = record { line = line; number = number; detail = 0 }

pub ends_inside : (old : Progress) (line : ℕ) → old.place ≡ Inside → Fits old → Ends line (says 0 old []) (Err (errors.Fault (late line TRUNCATED)))
unfolding says
ends_inside old line is fits =
    sym (ap (λ (p : Place). at_end line (says_at 0 p old.accepted old.numbers [])) is
    ∙ ap (at_end line) (ends_within old.accepted old.numbers (omega (arith, fits.few))))

-- ---- a refused reader
pub stays : (old : Progress) (fault : Fault) (file : ℕ) (rest lines : List FileLine) → old.place ≡ Refused fault → says file old rest ≡ says file old lines
unfolding says
stays old fault file rest lines is =
    ap (λ (p : Place). says_at file p old.accepted old.numbers rest) is ∙ sym (ap (λ (p : Place). says_at file p old.accepted old.numbers lines) is)

abbrev fault_answer : Fault → Result (Unit {0}) ReadError
fault_answer fault = Err (errors.Fault fault)

pub tells : (old : Progress) (fault : Fault) → old.place ≡ Refused fault → fault_answer fault ≡ answer (says 0 old [])
unfolding says
tells old fault is = sym (ap (λ (p : Place). answer (says_at 0 p old.accepted old.numbers [])) is)

-- ---- a line within a block
after_ok : (before after : Ephemeris) (numbers new : List Decimal) (line : TokenLine) (was place : Place) → Fits (at before numbers was)
    → TakesLine before numbers line (Ok place) after new → Fits (at after new place)
after_ok before after numbers new line was Inside fits (is, few, same) =
    let meets = holds_ok (Accepted before numbers line.tokens) (on_line before numbers line.tokens) new is (accepted before numbers line.tokens fits.read) in
    subst (λ (e : Ephemeris). Fits (at e new Inside)) (sym same) (record { checked = fits.checked; kept = refl; read = meets.read; few = few })
after_ok before after numbers new line was Between fits (all, is, whole, same, none) =
    let meets = holds_ok (Accepted before numbers line.tokens) (on_line before numbers line.tokens) all is (accepted before numbers line.tokens fits.read) in
    let with = is_with before all fits.checked meets.read whole in
    let some : 0 < (with_numbers before all).header.ncoeff = omega (arith, with.checked.header.fewest) in
    subst (λ (e : Ephemeris). Fits (at e new Between)) (sym same)
    (subst (λ (l : List Decimal). Fits (at (with_numbers before all) l Between)) (sym none)
    (record { checked = with.checked; kept = refl; read = none_read (with_numbers before all); few = some }))
after_ok before after numbers new line was (Refused fault) fits never = absurd never

pub fits_after : (before after : Ephemeris) (numbers new : List Decimal) (line : TokenLine) (was place : Place) (result : Result Place ReadError)
    → Fits (at before numbers was) → result ≡ Ok place → TakesLine before numbers line result after new → Fits (at after new place)
fits_after before after numbers new line was place result fits is taken =
    after_ok before after numbers new line was place fits (subst (λ (r : Result Place ReadError). TakesLine before numbers line r after new) is taken)

took_ok : (before after : Ephemeris) (numbers new : List Decimal) (line : TokenLine) (was place : Place) → was ≡ Inside → Fits (at before numbers was)
    → TakesLine before numbers line (Ok place) after new → Takes (at before numbers was) line (Ok tt) (at after new place)
took_ok before after numbers new line was Inside inside fits (is, few, same) = takes_more before after numbers new was line inside fits is few same
took_ok before after numbers new line was Between inside fits (all, is, whole, same, none) =
    takes_whole before after numbers all new was line inside fits is whole same
took_ok before after numbers new line was (Refused fault) inside fits never = absurd never

pub took : (before after : Ephemeris) (numbers new : List Decimal) (line : TokenLine) (was place : Place) (result : Result Place ReadError) → was ≡ Inside
    → Fits (at before numbers was) → result ≡ Ok place → TakesLine before numbers line result after new
    → Takes (at before numbers was) line (Ok tt) (at after new place)
took before after numbers new line was place result inside fits is taken =
    took_ok before after numbers new line was place inside fits
    (subst (λ (r : Result Place ReadError). TakesLine before numbers line r after new) is taken)

-- ---- a line that is taken, from its parts
pub after_block : (before after : Ephemeris) (numbers mid new : List Decimal) (line : TokenLine)
    → on_line before numbers line.tokens ≡ Ok mid → length mid ≡ before.header.ncoeff
    → after ≡ with_numbers before mid → new ≡ [] → TakesLine before numbers line (Ok Between) after new
after_block before after numbers mid new line is whole same none = (mid, is, whole, same, none)

-- the numbers are all there where they are not too few
pub is_whole : (before : Ephemeris) (numbers mid : List Decimal) (words : List (List ℕ)) → AreRead before numbers → length numbers < before.header.ncoeff
    → on_line before numbers words ≡ Ok mid → before.header.ncoeff ≤ length mid → AreRead before mid × (length mid ≡ before.header.ncoeff)
is_whole before numbers mid words read few is enough =
    let meets = holds_ok (Accepted before numbers words) (on_line before numbers words) mid is (accepted before numbers words read) in
    (meets.read, omega (arith, meets.count, few, enough))

pub took_bad : (before : Ephemeris) (numbers new : List Decimal) (after : Ephemeris) (place : Place) (last : Progress) (line : TokenLine) (why : ReadError) (fault : Fault)
    → place ≡ Inside → Fits (at before numbers place) → why ≡ errors.Fault fault → TakesLine before numbers line (Err why) after new → last.place ≡ Refused fault
    → Takes (at before numbers place) line (Err (errors.Fault fault)) last
took_bad before numbers new after place last line why fault inside fits is taken refused =
    let ruled = (subst (λ (r : ReadError). TakesLine before numbers line (Err r) after new) is taken).0 in
    let by = broken_by line.number (on_line before numbers line.tokens) fault ruled in
    takes_bad before numbers place last line by.0 fault inside fits by.1 (sym by.2) refused

pub ends_between : (old : Progress) (line : ℕ) (result : Result Ephemeris ReadError) → old.place ≡ Between → Ends line (from_record old.accepted []) result
    → Ends line (says 0 old []) result
unfolding says
ends_between old line result is ends = ends ∙ sym (ap (λ (p : Place). at_end line (says_at 0 p old.accepted old.numbers [])) is)
