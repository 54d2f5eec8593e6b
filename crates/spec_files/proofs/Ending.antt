-- Accepted blocks begin and end from Julian date 0 to Julian date 5,000,000, in seconds.
use Rattle.std.proofs.Common.{◌≡◌, ℕ, zero, suc, ◌+◌, ◌<◌, ◌&&◌, ◌||◌, nat_lt, Bool, true, false, List, [], ◌∷◌, length, Result, Ok, Err, refl, ap, ◌∙◌, inl, inr, arith, if◌then◌else◌, eq-eqb, ne_eqb, ℤ, pos, ◌+ℤ◌, ◌*ℤ◌, ◌≤ℤ◌, int_le, int_lt}
use Rattle.std.proofs.lemmas.Bool.{cases_Bool, cases_eq, and_parts, lt-ltb}
use Rattle.std.proofs.lemmas.Int.{ints}
use Rattle.std.proofs.Math.IntN.{zero-*ℤ}
use Rattle.spec_numbers.proofs.Whole.{add-mul, one-mul}
use Rattle.spec_text.specs.declared.decimals.Decimal.{Decimal}
use Rattle.spec_ephemeris.specs.declared.header.Header.{Header}
use Rattle.spec_ephemeris.specs.declared.limits.TheConstants.{LAST_TIME, MAX_BLOCKS}
use Rattle.spec_ephemeris.specs.Ephemeris.{Ephemeris, end_of, with_block}
use Rattle.spec_files.specs.declared.rules.BrokenRule.{BrokenRule}
use Rattle.spec_files.specs.Sections.{FileLine, ◌>>=◌}
use Rattle.spec_files.proofs.Holding.{Holds, holds_ok, then_any}
use Rattle.spec_files.specs.BlockRules.{follows, has_length, is_after_gap, is_skipped, time_of}
use Rattle.spec_files.specs.Blocks.{accept, block, blocks, blocks_after, begun, no_blocks, with_numbers}
use Rattle.spec_files.specs.Read.{AreRead}
use Rattle.spec_files.proofs.Blocks.{IsSecond, second_holds}
use Rattle.spec_files.proofs.Numbers.{block_holds}

-- it begins and ends in time
abbrev pub LiesInTime : Ephemeris → Type 0
LiesInTime e = IsSecond e.start × (end_of e ≤ℤ LAST_TIME)

-- where it has blocks
abbrev LiesWhereBegun : Ephemeris → Type 0
LiesWhereBegun e = 0 < e.blocks → LiesInTime e

-- ---- one block more
one_more : (start duration : ℤ) (count : ℕ) → (start +ℤ (pos (count + 1) *ℤ duration)) ≡ ((start +ℤ (pos count *ℤ duration)) +ℤ duration)
one_more start duration count =
    let more : pos (count + 1) ≡ (pos count +ℤ pos 1) = omega (arith, ints) in
    let split : (pos (count + 1) *ℤ duration) ≡ ((pos count *ℤ duration) +ℤ duration) =
    ap (λ (z : ℤ). z *ℤ duration) more ∙ add-mul (pos count) (pos 1) duration ∙ ap (λ (z : ℤ). (pos count *ℤ duration) +ℤ z) (one-mul duration) in
    omega (arith, ints, split)

-- the block lies where its dates say
lies : (length start end : ℤ) (r : Result (Unit {0}) BrokenRule) (x : BrokenRule) → (if has_length length start end then r else Err x) ≡ Ok tt
    → (end ≡ (start +ℤ length)) × (r ≡ Ok tt)
lies length start end r x is = elim (cases_Bool (has_length length start end)) [
  | inl has ↦ let both = and_parts (int_le (start +ℤ length) end) (int_le end (start +ℤ length)) has in
      (grind (arith, ints, both.0, both.1), rw has at is)
  | inr not ↦ let other : Err x ≡ Ok tt = rw not at is in absurd (cc)
]

no_gap : (a b : Bool) (x y : BrokenRule) → Holds (λ (u : Unit {0}). a ≡ false) (if a then Err x else if b then Ok tt else Err y)
no_gap true b x y = tt
no_gap false true x y = refl
no_gap false false x y = tt

-- where there are blocks, a block without a gap begins where they end
joins : (before : Ephemeris) (start : ℤ) → 0 < before.blocks → is_after_gap before start ≡ false → start ≡ end_of before
joins before start some gap =
    let inner : (nat_lt 0 before.blocks && (int_lt start (end_of before) || int_lt (end_of before) start)) ≡ false = gap in
    let none : (int_lt start (end_of before) || int_lt (end_of before) start) ≡ false = rw (lt-ltb 0 before.blocks some) at inner in
    apart (int_lt start (end_of before)) (int_lt (end_of before) start) refl refl none
  where
    apart : (a b : Bool) → int_lt start (end_of before) ≡ a → int_lt (end_of before) start ≡ b → (a || b) ≡ false → start ≡ end_of before
    apart true b below above none = absurd (cc)
    apart false true below above none = absurd (cc)
    apart false false below above none = grind (arith, ints, below, above)

pub with_more : (e : Ephemeris) (numbers : List Decimal) → end_of (with_block e numbers) ≡ (end_of e +ℤ e.header.block_seconds)
with_more e numbers = one_more e.start e.header.block_seconds e.blocks

module _ (before : Ephemeris) (numbers : List Decimal) (start end : ℤ) (late : end ≤ℤ LAST_TIME) (length : end ≡ (start +ℤ before.header.block_seconds)) (gap : is_after_gap before start ≡ false) where
  begun_ends : (end_of (begun before start) +ℤ before.header.block_seconds) ≤ℤ LAST_TIME
  begun_ends = elim (cases_eq before.blocks 0) [
    | inl none ↦ rw (eq-eqb before.blocks 0 none) (let zero = zero-*ℤ before.header.block_seconds in omega (arith, ints, zero, length, late))
    | inr some ↦ rw (ne_eqb before.blocks 0 some) (let same = joins before start (omega (arith, some)) gap in omega (arith, ints, same, length, late))
  ]

  same_length : (begun before start).header.block_seconds ≡ before.header.block_seconds
  same_length = elim (cases_eq before.blocks 0) [
    | inl none ↦ rw (eq-eqb before.blocks 0 none) refl
    | inr some ↦ rw (ne_eqb before.blocks 0 some) refl
  ]

  more_ends : end_of (with_block (begun before start) numbers) ≤ℤ LAST_TIME
  more_ends = let more = with_more (begun before start) numbers in let ends = begun_ends in let same = same_length in omega (arith, ints, more, ends, same)

begun_starts : (before : Ephemeris) (start : ℤ) → LiesWhereBegun before → IsSecond start → IsSecond (begun before start).start
begun_starts before start lies_before is = elim (cases_eq before.blocks 0) [
  | inl none ↦ rw (eq-eqb before.blocks 0 none) is
  | inr some ↦ rw (ne_eqb before.blocks 0 some) (lies_before (omega (arith, some))).0
]

accepted_lies : (before : Ephemeris) (numbers : List Decimal) (start end : ℤ) → LiesWhereBegun before → IsSecond start → IsSecond end → end ≡ (start +ℤ before.header.block_seconds)
    → follows before start end ≡ Ok tt → LiesWhereBegun (accept before numbers (Ok start) (Ok end))
accepted_lies before numbers start end lies_before early late length rule = elim (cases_Bool (is_skipped before end)) [
  | inl passed ↦ rw passed lies_before
  | inr new ↦ rw new (λ some. (
    begun_starts before start lies_before early,
    more_ends before numbers start end late.1 length (holds_ok _ _ tt (rw new at rule) (no_gap (is_after_gap before start) (nat_lt before.blocks MAX_BLOCKS) _ _)),
  ))
]

abbrev dates : Ephemeris → Result ℤ BrokenRule → Result ℤ BrokenRule → BrokenRule → Result (Unit {0}) BrokenRule
dates before a b x = a >>= λ start. b >>= λ end. if has_length before.header.block_seconds start end then follows before start end else Err x

dated_lies : (before : Ephemeris) (numbers : List Decimal) (a b : Result ℤ BrokenRule) (x : BrokenRule) → LiesWhereBegun before → Holds IsSecond a → Holds IsSecond b
    → dates before a b x ≡ Ok tt → LiesWhereBegun (accept before numbers a b)
dated_lies before numbers (Ok start) (Ok end) x lies_before early late rule =
    let placed = lies before.header.block_seconds start end (follows before start end) x rule in
    accepted_lies before numbers start end lies_before early late placed.0 placed.1
dated_lies before numbers (Ok start) (Err e) x lies_before early late rule = lies_before
dated_lies before numbers (Err e) b x lies_before early late rule = lies_before

one_lies : (before : Ephemeris) (numbers : List Decimal) → LiesWhereBegun before → AreRead before numbers → LiesWhereBegun (with_numbers before numbers)
one_lies before [] lies_before read = lies_before
one_lies before (first ∷ []) lies_before read = lies_before
one_lies before (first ∷ second ∷ rest) lies_before read =
    dated_lies before (first ∷ second ∷ rest) (time_of first) (time_of second) _ lies_before (second_holds first) (second_holds second) (read.rules 1 second refl)

-- ---- all blocks
lies_here : (before : Ephemeris) → LiesWhereBegun before → Holds LiesInTime (blocks_after 0 before [])
lies_here before lies_before = elim (cases_eq before.blocks 0) [
  | inl none ↦ rw (eq-eqb before.blocks 0 none) tt
  | inr some ↦ rw (ne_eqb before.blocks 0 some) (lies_before (omega (arith, some)))
]

all_lie : (n : ℕ) (before : Ephemeris) (lines : List FileLine) → LiesWhereBegun before → Holds LiesInTime (blocks_after n before lines)
all_lie zero before [] lies_before = lies_here before lies_before
all_lie (suc n) before [] lies_before = lies_here before lies_before
all_lie zero before (line ∷ rest) lies_before = tt
all_lie (suc n) before (line ∷ rest) lies_before =
    then_any LiesInTime (block before (line ∷ rest)) _ (λ found is.
    let counted = holds_ok _ (block before (line ∷ rest)) found is (block_holds before (line ∷ rest)) in
    all_lie n (with_numbers before found.0) found.1 (one_lies before found.0 lies_before counted.0))

pub blocks_lie : (h : Header) (lines : List FileLine) → Holds LiesInTime (blocks h lines)
unfolding blocks
blocks_lie h lines = all_lie (length lines) (no_blocks h) lines (λ some. absurd (omega (arith, some)))
