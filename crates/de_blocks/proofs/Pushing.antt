-- A block after the blocks before it.
use Rattle.std.proofs.Common.{◌≡◌, ℕ, zero, suc, ◌+◌, ◌*◌, ◌<◌, ◌≤◌, List, [], ◌∷◌, ◌++◌, length, take, sym, subst, Result, Ok, Err, refl, ap, ◌∙◌, arith, ℤ, eq-eqb, false, if◌then◌else◌, nat_lt, true}
use Rattle.std.specs.Prelude.{IfOk}
use Rattle.spec_text.specs.declared.decimals.Decimal.{Decimal}
use Rattle.spec_ephemeris.specs.declared.limits.TheConstants.{MAX_BLOCKS}
use Rattle.spec_ephemeris.specs.Ephemeris.{Ephemeris, IsBlock, IsEphemeris, IsStart, empty_ephemeris, with_block}
use Rattle.spec_files.specs.declared.rules.BrokenRule.{BrokenRule}
use Rattle.std.proofs.lemmas.Bool.{ltb-true}
use Rattle.spec_files.specs.Sections.{broken}
use Rattle.spec_files.proofs.Holding.{holds_ok}
use Rattle.spec_faults.specs.declared.numbers.TheConstants.{BLOCK_SPAN}
use Rattle.spec_files.specs.BlockRules.{coefficient_rule, follows, has_length, is_after_gap, is_skipped, second_date, time_of, value_rule}
use Rattle.spec_files.specs.Blocks.{begun, with_numbers}
use Rattle.spec_files.specs.Read.{AreRead}
use Rattle.spec_files.proofs.Blocks.{is_block, right_length, room, time_holds}
use Rattle.de_blocks.specs.Dates.{AreDates, AreRuled, met}
use Rattle.de_blocks.specs.declared.dates.Dates.{Dates}
use Rattle.eph_model.specs.Starting.{starting_at}

no_numbers : (numbers : List Decimal) → length numbers ≡ 0 → numbers ≡ []
no_numbers [] is = refl
no_numbers (d ∷ numbers) is = absurd (omega (arith, is))

abbrev first_of : Ephemeris → ℤ → ℕ → List Decimal → List Decimal → Ephemeris
first_of e start blocks before numbers = record { header = e.header; start = start; blocks = blocks + 1; numbers = before ++ numbers }

pub first_pushed : (e : Ephemeris) (numbers : List Decimal) (start : ℤ) → IsEphemeris e → e.blocks ≡ 0
    → starting_at (with_block e numbers) start ≡ with_block (begun e start) numbers
first_pushed e numbers start checked none =
    let zero_length : e.blocks * e.header.ncoeff ≡ 0 = ap (λ (k : ℕ). k * e.header.ncoeff) none ∙ omega arith in
    let nothing : e.numbers ≡ [] = no_numbers e.numbers (checked.whole ∙ zero_length) in
    let both : starting_at (with_block e numbers) start ≡ with_block (empty_ephemeris e.header start) numbers = λ i. first_of e start (none i) (nothing i) numbers in
    both ∙ rw (eq-eqb e.blocks 0 none) refl

pub block_of : (before : Ephemeris) (numbers : List Decimal) → IsEphemeris before → AreRead before numbers → length numbers ≡ before.header.ncoeff
    → IsBlock before.header numbers
block_of before [] checked read whole = absurd (omega (arith, checked.header.fewest, whole))
block_of before (first ∷ []) checked read whole = absurd (omega (arith, checked.header.fewest, whole))
block_of before (first ∷ second ∷ rest) checked read whole = is_block before first second rest checked.header read whole

-- a block of these dates that is not skipped
pub record IsNew (before : Ephemeris) (numbers : List Decimal) (start : ℤ) : Type 0 where
  pub room : before.blocks < MAX_BLOCKS
  pub is : with_numbers before numbers ≡ with_block (begun before start) numbers

pub new_block : (before : Ephemeris) (numbers : List Decimal) (dates : Dates) → IsEphemeris before → AreRead before numbers → length numbers ≡ before.header.ncoeff
    → AreDates numbers dates → is_skipped before dates.end ≡ false → IsNew before numbers dates.start
new_block before [] dates checked read whole are new = absurd (omega (arith, checked.header.fewest, whole))
new_block before (first ∷ []) dates checked read whole are new = absurd (omega (arith, checked.header.fewest, whole))
new_block before (first ∷ second ∷ rest) dates checked read whole (a, b) new =
    let rule : second_date before first second ≡ Ok tt = read.rules 1 second refl in
    let dated : (if has_length before.header.block_seconds dates.start dates.end then follows before dates.start dates.end else Err (broken BLOCK_SPAN 0)) ≡ Ok tt =
    rw (a, b) at rule in
    let after : follows before dates.start dates.end ≡ Ok tt =
    right_length (has_length before.header.block_seconds dates.start dates.end) (follows before dates.start dates.end) (broken BLOCK_SPAN 0) dated in
    let fewer = holds_ok _ _ tt (rw new at after) (room (is_after_gap before dates.start) (nat_lt before.blocks MAX_BLOCKS) _ _) in
    record { room = ltb-true before.blocks MAX_BLOCKS fewer.1; is = rw (a, b, new) refl }

-- the dates of a whole block are times within bounds
pub dates_hold : (before : Ephemeris) (numbers : List Decimal) (dates : Dates) → IsEphemeris before → length numbers ≡ before.header.ncoeff
    → AreDates numbers dates → IsStart dates.start × IsStart dates.end
dates_hold before [] dates checked whole are = absurd (omega (arith, checked.header.fewest, whole))
dates_hold before (first ∷ []) dates checked whole are = absurd (omega (arith, checked.header.fewest, whole))
dates_hold before (first ∷ second ∷ rest) dates checked whole (a, b) =
    (holds_ok IsStart (time_of first) dates.start a (time_holds first), holds_ok IsStart (time_of second) dates.end b (time_holds second))

-- ---- the dates with one number more
pub dates_kept : (numbers : List Decimal) (dates : Dates) (d : Decimal) → 2 ≤ length numbers → AreDates numbers dates → AreDates (numbers ++ d ∷ []) dates
dates_kept [] dates d two are = absurd (omega (arith, two))
dates_kept (first ∷ []) dates d two are = absurd (omega (arith, two))
dates_kept (first ∷ second ∷ rest) dates d two are = are

pub dates_cut : (count : ℕ) (numbers : List Decimal) (dates : Dates) → AreDates numbers dates → AreDates (take count numbers) dates
dates_cut zero numbers dates are = tt
dates_cut (suc count) [] dates are = tt
dates_cut (suc zero) (first ∷ []) dates are = are
dates_cut (suc (suc count)) (first ∷ []) dates are = are
dates_cut (suc zero) (first ∷ second ∷ rest) dates are = are.0
dates_cut (suc (suc count)) (first ∷ second ∷ rest) dates are = are

pub of_coefficient : (before : Ephemeris) (numbers : List Decimal) (d : Decimal) → 2 ≤ length numbers
    → coefficient_rule before.header.columns (length numbers + 1) d ≡ value_rule before numbers d
of_coefficient before [] d two = absurd (omega (arith, two))
of_coefficient before (first ∷ []) d two = absurd (omega (arith, two))
of_coefficient before (first ∷ second ∷ rest) d two =
    let place : length (first ∷ second ∷ rest) + 1 ≡ length rest + 3 = omega arith in
    ap (λ (k : ℕ). coefficient_rule before.header.columns k d) place

-- ---- a number by its place

later_dates : (numbers : List Decimal) (d : Decimal) (own : Dates) (r : Result Dates BrokenRule) → AreDates (numbers ++ d ∷ []) own
    → IfOk r (λ dates. dates ≡ own) → IfOk r (λ dates. AreDates (numbers ++ d ∷ []) dates)
later_dates numbers d own (Ok dates) are same = subst (AreDates (numbers ++ d ∷ [])) (sym same) are
later_dates numbers d own (Err b) are same = tt

pub at_later : (before : Ephemeris) (numbers : List Decimal) (d : Decimal) (own : Dates) (r : Result Dates BrokenRule) (q : Result (Unit {0}) BrokenRule)
    → 2 ≤ length numbers → AreDates numbers own → q ≡ coefficient_rule before.header.columns (length numbers + 1) d
    → met r ≡ q → IfOk r (λ dates. dates ≡ own) → AreRuled before numbers d r
at_later before numbers d own r q two are rule is same = record {
  rule = is ∙ rule ∙ of_coefficient before numbers d two;
  dates = later_dates numbers d own r (dates_kept numbers own d two are) same;
}

-- a second date that does not follow the blocks before
pub second_refused : (before : Ephemeris) (first d : Decimal) (start end : ℤ) (b : BrokenRule) → time_of first ≡ Ok start → Ok end ≡ time_of d
    → has_length before.header.block_seconds start end ≡ true → Err b ≡ follows before start end → Err b ≡ second_date before first d
second_refused before first d start end b a e has rule = rw (a, ← e, has) rule

-- ---- a number below 2^36 in size after the dates
