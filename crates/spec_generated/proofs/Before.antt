-- The blocks before a block, and with it.
use Rattle.std.proofs.Common.{◌≡◌, ◌≢◌, ◌+◌, ◌<◌, ◌≤◌, ℕ, zero, suc, true, false, List, Ok, refl, ap, ◌∙◌, arith, lit<, inl, inr, ℤ, pos, neg_ℤ, ne_eqb}
use Rattle.std.specs.Prelude.{int_le, int_lt}
use Rattle.std.proofs.lemmas.Bool.{cases_eq, lt-ltb}
use Rattle.std.proofs.lemmas.Int.{ints}
use Rattle.spec_text.specs.Reading.{reading}
use Rattle.spec_text.specs.declared.decimals.Decimal.{Decimal}
use Rattle.spec_ephemeris.specs.Ephemeris.{Ephemeris, end_of}
use Rattle.spec_ephemeris.specs.Examples.{de405}
use Rattle.spec_ephemeris.specs.declared.header.Header.{Header}
use Rattle.spec_files.specs.BlockRules.{follows, has_length, is_after_gap, is_skipped, number_rule, second_date, time_of, value_rule}
use Rattle.spec_files.specs.Blocks.{accept, no_blocks, with_numbers}
use Rattle.spec_generated.specs.Blocks.{block_numbers, numbers_from, numbers_of, state_of}
use Rattle.spec_generated.specs.Generated.{generated_ephemeris}
use Rattle.spec_generated.specs.Words.{block_number, block_word, date_number}
use Rattle.spec_generated.proofs.BlockWords.{block_number_small, block_word_reads, date_at}
use Rattle.spec_generated.proofs.Rows.{AreNumbers}
use Rattle.spec_generated.proofs.Times.{time_at, time_is}

-- the first blocks of a generated text
abbrev pub before_at : ℕ → ℕ → Ephemeris
before_at seed zero = no_blocks de405
before_at seed (suc block) = generated_ephemeris (suc block) seed

-- what is known of the blocks before a block
pub record IsBefore (block : ℕ) (e : Ephemeris) : Type 0 where
  pub header : e.header ≡ de405
  pub blocks : e.blocks ≡ block
  pub end : 0 < block → end_of e ≡ time_at block

pub before_is : (seed block : ℕ) → IsBefore block (before_at seed block)
unfolding generated_ephemeris
before_is seed zero = record { header = refl; blocks = refl; end = λ some. absurd (omega (arith, some)) }
before_is seed (suc block) = record { header = refl; blocks = refl; end = λ some. refl }

later_le : (block : ℕ) → int_le (time_at (block + 1)) (time_at block) ≡ false
later_le block = grind (arith, ints)

same_lt : (z : ℤ) → int_lt z z ≡ false
same_lt z = grind (arith, ints)

not_skipped : (block : ℕ) (e : Ephemeris) → IsBefore block e → is_skipped e (time_at (block + 1)) ≡ false
not_skipped block e is = elim (cases_eq block 0) [
  | inl none ↦ rw (is.blocks, none) refl
  | inr some ↦ rw (is.end (omega (arith, some)), is.blocks, lt-ltb 0 block (omega (arith, some))) (later_le block)
]

no_gap : (block : ℕ) (e : Ephemeris) → IsBefore block e → is_after_gap e (time_at block) ≡ false
no_gap block e is = elim (cases_eq block 0) [
  | inl none ↦ rw (is.blocks, none) refl
  | inr some ↦ rw (is.end (omega (arith, some)), is.blocks, lt-ltb 0 block (omega (arith, some)), same_lt (time_at block)) refl
]

follows_is : (block : ℕ) (e : Ephemeris) → block ≤ 40 → IsBefore block e → follows e (time_at block) (time_at (block + 1)) ≡ Ok tt
follows_is block e few is = rw (not_skipped block e is, no_gap block e is, is.blocks, lt-ltb block 16384 (omega (arith, few))) refl

length_is : (block : ℕ) → has_length (pos 2764800) (time_at block) (time_at (block + 1)) ≡ true
length_is block = grind (arith, ints)

-- the two dates of a block
first_is : (state block : ℕ) → block_number state block 1 ≡ date_number block
first_is state block = let same : block + 0 ≡ block = omega arith in (date_at state block 1 (lit< tt)).number ∙ ap date_number same

second_is : (state block : ℕ) → block_number state block 2 ≡ date_number (block + 1)
second_is state block = (date_at state block 2 (lit< tt)).number

first_time : (state block : ℕ) → block ≤ 40 → time_of (block_number state block 1) ≡ Ok (time_at block)
first_time state block few = ap time_of (first_is state block) ∙ time_is block (omega (arith, few))

second_time : (state block : ℕ) → block ≤ 40 → time_of (block_number state block 2) ≡ Ok (time_at (block + 1))
second_time state block few = ap time_of (second_is state block) ∙ time_is (block + 1) (omega (arith, few))

rule_is : (e : Ephemeris) (numbers : List Decimal) (word : List ℕ) (d : Decimal) → reading word ≡ Ok d → value_rule e numbers d ≡ Ok tt → number_rule e numbers word ≡ Ok d
rule_is e numbers word d read rule = rw (read, rule) refl

dated : (e : Ephemeris) (first second : Decimal) (start end : ℤ) → time_of first ≡ Ok start → time_of second ≡ Ok end
    → has_length e.header.block_seconds start end ≡ true → follows e start end ≡ Ok tt → second_date e first second ≡ Ok tt
dated e first second start end starts ends whole follow = rw (starts, ends, whole) follow

value_is : (state block q : ℕ) (e : Ephemeris) → block ≤ 40 → IsBefore block e → q < 1018
    → value_rule e (numbers_from (block_number state block) 1 q) (block_number state block (q + 1)) ≡ Ok tt
unfolding numbers_from
value_is state block zero e few is below = rw (first_time state block few) refl
value_is state block (suc zero) e few is below =
    dated e (block_number state block 1) (block_number state block 2) (time_at block) (time_at (block + 1)) (first_time state block few) (second_time state block few)
    (ap (λ (h : Header). has_length h.block_seconds (time_at block) (time_at (block + 1))) is.header ∙ length_is block) (follows_is block e few is)
value_is state block (suc (suc q)) e few is below =
    rw (block_number_small state block (suc (suc q) + 1) (omega (arith, below)) (omega (arith, below))) refl

pub are_numbers : (state block : ℕ) (e : Ephemeris) → block ≤ 40 → IsBefore block e → AreNumbers e (block_word state block) (block_number state block)
are_numbers state block e few is q below =
    rule_is e (numbers_from (block_number state block) 1 q) (block_word state block (q + 1)) (block_number state block (q + 1))
    (block_word_reads state block (q + 1) few (omega (arith, below))) (value_is state block q e few is below)

-- ---- one block more
accepted : (e : Ephemeris) (number : ℕ → Decimal) (rest : ℕ)
    → with_numbers e (numbers_from number 1 (suc (suc rest))) ≡ accept e (numbers_from number 1 (suc (suc rest))) (time_of (number 1)) (time_of (number 2))
unfolding numbers_from
accepted e number rest = refl

next_is : (seed block : ℕ) → block ≤ 40
    → accept (before_at seed block) (block_numbers (state_of seed block) block) (Ok (time_at block)) (Ok (time_at (block + 1))) ≡ before_at seed (suc block)
unfolding generated_ephemeris numbers_of
next_is seed zero few = refl
next_is seed (suc block) few =
    let none : suc block ≢ 0 = λ e. omega (arith, e) in
    let one : suc block + 1 ≡ suc (suc block) = omega arith in
    rw (not_skipped (suc block) (before_at seed (suc block)) (before_is seed (suc block)), ne_eqb (suc block) 0 none)
    (λ i. record { header = de405; start = neg_ℤ (pos 734400); blocks = one i; numbers = numbers_of seed (suc (suc block)) })

pub with_block_is : (seed block : ℕ) → block ≤ 40 → with_numbers (before_at seed block) (block_numbers (state_of seed block) block) ≡ before_at seed (suc block)
unfolding block_numbers
with_block_is seed block few =
    let state = state_of seed block in
    accepted (before_at seed block) (block_number state block) 1016
    ∙ (λ i. accept (before_at seed block) (block_numbers state block) (first_time state block few i) (second_time state block few i))
    ∙ next_is seed block few
