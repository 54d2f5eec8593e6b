-- One block more is one of a checked ephemeris.
use Rattle.std.proofs.Common.{◌≡◌, ℕ, zero, suc, ◌+◌, ◌*◌, ◌<◌, ◌≤◌, ◌&&◌, nat_lt, nat_le, Bool, true, false, List, [], ◌∷◌, length, take, Some, Result, Ok, Err, refl, sym, ap, ◌∙◌, subst, inl, inr, arith, if◌then◌else◌, eq-eqb, ne_eqb, ℤ, pos, ◌≤ℤ◌}
use Rattle.std.specs.Prelude.{slice_get}
use Rattle.std.proofs.lemmas.Bool.{cases_Bool, cases_eq, and_parts, lt-ltb, ltb-true, le-leb, leb-false, and_from, or_left, or_right, false≢true}
use Rattle.std.proofs.lemmas.Option.{none-some, same_Some, slice_get_within}
use Rattle.std.proofs.lemmas.List.{length-take-le}
use Rattle.std.proofs.lemmas.Int.{ints}
use Rattle.spec_text.specs.declared.decimals.Decimal.{Decimal}
use Rattle.spec_ephemeris.specs.declared.header.Column.{Column}
use Rattle.spec_ephemeris.specs.declared.header.Header.{Header}
use Rattle.spec_ephemeris.specs.declared.limits.TheConstants.{BODY_COLUMNS, FIRST_TIME, LAST_TIME, MAX_BLOCKS}
use Rattle.spec_ephemeris.specs.Header.{IsHeader, IsColumn, Takes, is_present, column_size}
use Rattle.spec_ephemeris.specs.Ephemeris.{Ephemeris, IsEphemeris, IsStart, IsBlock, IsBodyNumber, AreBodiesBounded, empty_ephemeris}
use Rattle.spec_ephemeris.specs.Series.{IsInUnits}
use Rattle.spec_ephemeris.proofs.ColumnRules.{listed}
use Rattle.spec_ephemeris.proofs.Pushing.{pushed}
use Rattle.spec_files.specs.declared.rules.BrokenRule.{BrokenRule}
use Rattle.spec_text.specs.Days.{seconds_of_julian_date}
use Rattle.spec_text.specs.declared.days.DaysFault.{DaysFault}
use Rattle.spec_text.specs.declared.limits.TheConstants.{DAY_SECONDS, LAST_JULIAN_DAY}
use Rattle.spec_text.proofs.Spans.{seconds_few}
use Rattle.spec_files.specs.Sections.{◌>>=◌}
use Rattle.spec_files.proofs.Holding.{Holds, holds_also, holds_ok}
use Rattle.spec_numbers.proofs.Lists.{get_take}
use Rattle.spec_files.specs.BlockRules.{coefficient_rule, follows, has_length, is_skipped, is_place_of, is_place_of_body, is_too_large, time_by, time_of}
use Rattle.spec_files.specs.Blocks.{accept, begun, no_blocks, with_numbers}
use Rattle.spec_files.specs.Read.{AreRead}

-- ---- times
-- a second from Julian date 0 to Julian date 5,000,000
abbrev pub IsSecond : ℤ → Type 0
IsSecond t = (FIRST_TIME ≤ℤ t) × (t ≤ℤ LAST_TIME)

time_by_holds : (r : Result ℕ DaysFault) → Holds (λ s. s ≤ DAY_SECONDS * LAST_JULIAN_DAY) r → Holds IsSecond (time_by r)
time_by_holds (Ok s) few = (omega (arith, ints), omega (arith, ints, few))
time_by_holds (Err b) few = tt

pub second_holds : (d : Decimal) → Holds IsSecond (time_of d)
second_holds d = time_by_holds (seconds_of_julian_date d) (seconds_few LAST_JULIAN_DAY d)

pub time_holds : (d : Decimal) → Holds IsStart (time_of d)
time_holds d = holds_also IsSecond IsStart (time_of d) (λ t is. (omega (arith, ints, is.0), omega (arith, ints, is.1))) (second_holds d)

-- ---- places
found_place : (number : ℕ) (cs : List Column) (i place : ℕ) (c : Column) → slice_get cs i ≡ Some c → is_present c ≡ true → Takes (number + i) c place
    → is_place_of number cs place ≡ true
found_place number [] i place c at present takes = absurd (none-some c at)
found_place number (d ∷ cs) zero place c at present takes =
    let same : d ≡ c = same_Some d c at in
    let k : number + 0 ≡ number = omega arith in
    let from : nat_le c.start place ≡ true = le-leb c.start place takes.from in
    let below : nat_lt place (c.start + column_size number c) ≡ true =
    ap (λ (m : ℕ). nat_lt place (c.start + column_size m c)) (sym k) ∙ lt-ltb place (c.start + column_size (number + 0) c) takes.before in
    or_left _ (is_place_of (suc number) cs place) (rw same (and_from _ _ present (and_from _ _ from below)))
found_place number (d ∷ cs) (suc i) place c at present takes =
    let k : number + suc i ≡ suc number + i = omega arith in
    or_right (is_present d && (nat_le d.start place && nat_lt place (d.start + column_size number d))) _
    (found_place (suc number) cs i place c at present (subst (λ (m : ℕ). Takes m c place) k takes))

body_place : (h : Header) (number place : ℕ) (c : Column) → IsColumn h number c → number ≤ BODY_COLUMNS → Takes number c place → is_place_of_body h.columns place ≡ true
body_place h zero place c is few takes = absurd (none-some c is.listed)
body_place h (suc i) place c is few takes =
    let number : suc i ≡ 1 + i = omega arith in
    let there = listed h.columns i c is.listed in
    found_place 1 (take BODY_COLUMNS h.columns) i place c (get_take h.columns BODY_COLUMNS i (omega (arith, few)) ∙ there.1) is.present
    (subst (λ (k : ℕ). Takes k c place) number takes)

not_large : (a b : Bool) (x : BrokenRule) → b ≡ true → Holds (λ (u : Unit {0}). a ≡ false) (if a && b then Err x else Ok tt)
not_large true true x is = tt
not_large true false x is = absurd (false≢true is)
not_large false b x is = refl

small_enough : (d : Decimal) → is_too_large d ≡ false → IsInUnits d → IsBodyNumber d
small_enough d is units = record { small = omega (arith, leb-false _ _ is); in_units = units }

-- ---- a block
coefficient_met : (before : Ephemeris) (first second : Decimal) (rest : List Decimal) (k : ℕ) (d : Decimal) → AreRead before (first ∷ second ∷ rest)
    → slice_get rest k ≡ Some d → coefficient_rule before.header.columns (k + 3) d ≡ Ok tt
coefficient_met before first second rest k d read at =
    let within : k < length rest = slice_get_within rest k d at in
    ap (λ (n : ℕ). coefficient_rule before.header.columns (n + 3) d) (sym (length-take-le k rest (omega (arith, within)))) ∙ read.rules (suc (suc k)) d at

body_met : (before : Ephemeris) (first second : Decimal) (rest : List Decimal) → IsHeader before.header → AreRead before (first ∷ second ∷ rest)
    → AreBodiesBounded before.header (first ∷ second ∷ rest)
body_met before first second rest header read number zero c d is few takes at =
    absurd (omega (arith, (header.columns number c is).start, takes.from))
body_met before first second rest header read number (suc zero) c d is few takes at =
    absurd (omega (arith, (header.columns number c is).start, takes.from))
body_met before first second rest header read number (suc (suc k)) c d is few takes at =
    let place : suc (suc (suc k)) ≡ k + 3 = omega arith in
    let body : is_place_of_body before.header.columns (k + 3) ≡ true =
    body_place before.header number (k + 3) c is few (subst (λ (p : ℕ). Takes number c p) place takes) in
    small_enough d (holds_ok _ _ tt (coefficient_met before first second rest k d read at) (not_large (is_too_large d) (is_place_of_body before.header.columns (k + 3)) _ body))
    (read.in_units (suc (suc k)) d at)

pub is_block : (before : Ephemeris) (first second : Decimal) (rest : List Decimal) → IsHeader before.header → AreRead before (first ∷ second ∷ rest)
    → length (first ∷ second ∷ rest) ≡ before.header.ncoeff → IsBlock before.header (first ∷ second ∷ rest)
is_block before first second rest header read whole = record { whole = whole; bodies = body_met before first second rest header read }

-- ---- the blocks before, and one more
empty_checked : (h : Header) (start : ℤ) → IsHeader h → IsStart start → IsEphemeris (empty_ephemeris h start)
empty_checked h start header is =
    record { header = header; start = is; few = omega arith; whole = omega arith; bodies = λ k below. absurd (omega (arith, below)) }

pub none_checked : (h : Header) → IsHeader h → IsEphemeris (no_blocks h)
none_checked h header = empty_checked h (pos 0) header (omega (arith, ints), omega (arith, ints))

pub record IsBegun (before e : Ephemeris) : Type 0 where
  pub checked : IsEphemeris e
  pub header : e.header ≡ before.header
  pub blocks : e.blocks ≡ before.blocks

pub begun_is : (before : Ephemeris) (start : ℤ) → IsEphemeris before → IsStart start → IsBegun before (begun before start)
begun_is before start checked is = elim (cases_eq before.blocks 0) [
  | inl none ↦ rw (eq-eqb before.blocks 0 none)
      (record { checked = empty_checked before.header start checked.header is; header = refl; blocks = sym none })
  | inr some ↦ rw (ne_eqb before.blocks 0 some) (record { checked = checked; header = refl; blocks = refl })
]

-- a checked ephemeris with the header of the blocks before, and one block or more
pub record IsWith (before e : Ephemeris) : Type 0 where
  pub checked : IsEphemeris e
  pub header : e.header ≡ before.header
  pub some : 0 < e.blocks

pub room : (a b : Bool) (x y : BrokenRule) → Holds (λ (u : Unit {0}). (a ≡ false) × (b ≡ true)) (if a then Err x else if b then Ok tt else Err y)
room true b x y = tt
room false true x y = (refl, refl)
room false false x y = tt

accepted_with : (before : Ephemeris) (numbers : List Decimal) (start end : ℤ) → IsEphemeris before → IsBlock before.header numbers → IsStart start
    → follows before start end ≡ Ok tt → IsWith before (accept before numbers (Ok start) (Ok end))
accepted_with before numbers start end checked fits is rule = elim (cases_Bool (is_skipped before end)) [
  | inl passed ↦
      let some = ltb-true 0 before.blocks ((and_parts (nat_lt 0 before.blocks) _ passed).0) in
      rw passed (record { checked = checked; header = refl; some = some })
  | inr new ↦
      let fewer = holds_ok _ _ tt (rw new at rule) (room _ (nat_lt before.blocks MAX_BLOCKS) _ _) in
      let begins = begun_is before start checked is in
      let few : before.blocks < MAX_BLOCKS = ltb-true before.blocks MAX_BLOCKS fewer.1 in
      rw new (record {
        checked = pushed (begun before start) numbers begins.checked (subst (λ (h : Header). IsBlock h numbers) (sym begins.header) fits) (omega (arith, begins.blocks, few));
        header = begins.header;
        some = omega arith;
      })
]

pub right_length : (c : Bool) (r : Result (Unit {0}) BrokenRule) (x : BrokenRule) → (if c then r else Err x) ≡ Ok tt → r ≡ Ok tt
right_length true r x is = is
right_length false r x is = absurd (cc)

abbrev dates : Ephemeris → Result ℤ BrokenRule → Result ℤ BrokenRule → BrokenRule → Result (Unit {0}) BrokenRule
dates before a b x = a >>= λ start. b >>= λ end. if has_length before.header.block_seconds start end then follows before start end else Err x

dated : (before : Ephemeris) (numbers : List Decimal) (a b : Result ℤ BrokenRule) (x : BrokenRule) → IsEphemeris before → IsBlock before.header numbers
    → Holds IsStart a → dates before a b x ≡ Ok tt → IsWith before (accept before numbers a b)
dated before numbers (Ok start) (Ok end) x checked fits is rule = accepted_with before numbers start end checked fits is (right_length _ (follows before start end) x rule)
dated before numbers (Ok start) (Err e) x checked fits is rule = absurd (cc)
dated before numbers (Err e) b x checked fits is rule = absurd (cc)

pub is_with : (before : Ephemeris) (numbers : List Decimal) → IsEphemeris before → AreRead before numbers → length numbers ≡ before.header.ncoeff
    → IsWith before (with_numbers before numbers)
is_with before [] checked read whole = absurd (omega (arith, checked.header.fewest, whole))
is_with before (first ∷ []) checked read whole = absurd (omega (arith, checked.header.fewest, whole))
is_with before (first ∷ second ∷ rest) checked read whole =
    dated before (first ∷ second ∷ rest) (time_of first) (time_of second) _ checked (is_block before first second rest checked.header read whole)
    (time_holds first) (read.rules 1 second refl)
