-- A generated text is accepted.
use Rattle.std.proofs.Common.{◌≡◌, ◌≢◌, ◌+◌, ◌*◌, ◌^◌, ◌<◌, ◌≤◌, ◌&&◌, ℕ, zero, suc, Bool, true, List, [], ◌∷◌, ◌++◌, length, None, Some, Result, Ok, refl, sym, ap, ◌∙◌, arith, lit<, lit≤, subst, ne_eqb, nat_le, nat_lt}
use Rattle.std.specs.Fmt.{decimal, digits}
use Rattle.std.specs.List.{list_all}
use Rattle.std.proofs.lemmas.Bool.{and_parts, leb-true, ltb-true}
use Rattle.std.proofs.lemmas.Fmt.{decimal_nonempty, length-decimal-le}
use Rattle.std.proofs.lemmas.List.{length-append}
use Rattle.spec_text.specs.Decimals.{value}
use Rattle.spec_text.specs.Lines.{tokens}
use Rattle.spec_text.specs.Reading.{whole_of}
use Rattle.spec_text.specs.declared.decimals.Decimal.{Decimal}
use Rattle.spec_text.specs.Printed.{joined_lines}
use Rattle.spec_text.proofs.Printed.{decimal_digits, digits_pass, from_append, from_less, from_test, no_separators}
use Rattle.spec_text.proofs.TokenLemmas.{first_token, last_token}
use Rattle.spec_text.proofs.Wholes.{value_small, whole_is}
use Rattle.spec_ephemeris.specs.Ephemeris.{Ephemeris, IsEphemeris}
use Rattle.spec_ephemeris.specs.Examples.{de405}
use Rattle.spec_ephemeris.specs.declared.header.Header.{Header}
use Rattle.spec_files.specs.Sections.{FileLine, Stop, first_words, lines_after}
use Rattle.spec_files.specs.HeaderLines.{header}
use Rattle.spec_files.specs.BlockRules.{record_line as record_rule, trailing_rule}
use Rattle.spec_files.specs.Blocks.{block, blocks, blocks_after, further_numbers, further_words, numbers_of, with_numbers, zeros_of}
use Rattle.spec_faults.specs.declared.numbers.TheConstants.{TRUNCATED}
use Rattle.spec_files.specs.Lines.{ephemeris}
use Rattle.spec_files.specs.Outcome.{fault_or_cut, first_fault, outcome, outcome_by}
use Rattle.spec_files.specs.Texts.{first_cut, joined}
use Rattle.spec_files.proofs.Holding.{holds_ok}
use Rattle.spec_files.proofs.Lines.{HasBlocks, ephemeris_holds}
use Rattle.spec_files.proofs.MoreHeader.{header_keeps}
use Rattle.spec_files.proofs.MoreLines.{Keeps, are_words}
use Rattle.spec_generated.specs.Blocks.{block_lines, block_numbers, lines_from, numbers_from, record_line, rows_from, state_of}
use Rattle.spec_generated.specs.Generated.{generated_ephemeris, generated_text, header_lines}
use Rattle.spec_generated.specs.Words.{block_number, block_word}
use Rattle.spec_generated.proofs.Before.{IsBefore, are_numbers, before_at, before_is, with_block_is}
use Rattle.spec_generated.proofs.BlockWords.{block_word_is, decimal_word, zero_at}
use Rattle.spec_generated.proofs.Lines.{AreShortLines, IsShortLine, is_file, lines_at, short_append}
use Rattle.spec_generated.proofs.Rows.{count_is, lines_rows, none_after, rows_at, rows_numbers, rows_short, rows_zeros}

-- ---- the header
abbrev is_short : List ℕ → Bool
is_short line = list_all (nat_le 32) line && (nat_le (length line) 200 && nat_lt 0 (length (tokens line)))

short_tests : (ls : List (List ℕ)) → list_all is_short ls ≡ true → AreShortLines ls
short_tests [] all = tt
short_tests (line ∷ rest) all =
    let parts = and_parts (is_short line) (list_all is_short rest) all in
    let here = and_parts (list_all (nat_le 32) line) (nat_le (length line) 200 && nat_lt 0 (length (tokens line))) parts.0 in
    let sizes = and_parts (nat_le (length line) 200) (nat_lt 0 (length (tokens line))) here.1 in
    (record { bytes = from_test 32 line here.0; short = leb-true _ _ sizes.0; some = ltb-true _ _ sizes.1 }, short_tests rest parts.1)

header_short : AreShortLines header_lines
unfolding header_lines
header_short = short_tests header_lines refl

header_alone : header (lines_at 1 header_lines) ≡ Ok (de405, [])
unfolding header header_lines lines_at
header_alone = refl

lines_append : (k : ℕ) (xs ys : List (List ℕ)) → lines_at k (xs ++ ys) ≡ lines_at k xs ++ lines_at (k + length xs) ys
unfolding lines_at
lines_append k [] ys = let same : k ≡ k + 0 = omega arith in ap (λ (n : ℕ). lines_at n ys) same
lines_append k (x ∷ xs) ys =
    let next : k + 1 + length xs ≡ k + suc (length xs) = omega arith in
    ap (λ (l : List FileLine). record { file = 0; number = k; words = tokens x } ∷ l) (lines_append (k + 1) xs ys ∙ ap (λ (n : ℕ). lines_at (k + 1) xs ++ lines_at n ys) next)

header_read : (rest : List (List ℕ)) → header (lines_at 1 (header_lines ++ rest)) ≡ Ok (de405, lines_at (1 + length header_lines) rest)
header_read rest =
    let later = lines_at (1 + length header_lines) rest in
    ap header (lines_append 1 header_lines rest)
    ∙ subst (λ (r : Result (Header × List FileLine) Stop). Keeps later r (header (lines_at 1 header_lines ++ later))) header_alone (header_keeps later (lines_at 1 header_lines))

-- ---- the line before the numbers of a block
decimal_whole : (n : ℕ) → n < 10 ^ 9 → whole_of (decimal n) ≡ Some (value (decimal n))
decimal_whole n small =
    let fits : n < 2 ^ 64 = omega (arith, small) in
    let are = decimal_digits n fits in
    let some = decimal_nonempty n fits in
    let short = length-decimal-le 9 n (lit< tt) small fits in
    let below = value_small (decimal n) are short in
    sym (whole_is (decimal n) (value (decimal n)) (digits_pass (decimal n) are) some short (omega (arith, below)))

ncoeff_whole : whole_of (decimal 1018) ≡ Some 1018
unfolding digits
ncoeff_whole = refl

record_words : (block : ℕ) → block ≤ 40 → tokens (record_line block) ≡ decimal (block + 1) ∷ decimal 1018 ∷ []
record_words block few =
    let first = decimal_word (block + 1) (omega (arith, few)) in
    let second = decimal_word 1018 (lit< tt) in
    first_token (decimal (block + 1)) 32 (decimal 1018) (no_separators (decimal (block + 1)) first.bytes) first.some refl
    ∙ ap (λ (l : List (List ℕ)). decimal (block + 1) ∷ l) (last_token (decimal 1018) (no_separators (decimal 1018) second.bytes) second.some)

record_is : (ncoeff : ℕ) (nth : ℕ) → nth ≤ 40 → ncoeff ≡ 1018 → record_rule ncoeff (tokens (record_line nth)) ≡ Ok tt
record_is ncoeff nth few is =
    let first = decimal_whole (nth + 1) (omega (arith, few)) in
    (λ i. record_rule (is i) (record_words nth few i)) ∙ rw (first, ncoeff_whole) refl

record_short : (nth : ℕ) → nth ≤ 40 → IsShortLine (record_line nth)
record_short nth few =
    let first = decimal_word (nth + 1) (omega (arith, few)) in
    let second = decimal_word 1018 (lit< tt) in
    record {
      bytes = from_append 32 (decimal (nth + 1)) (32 ∷ decimal 1018) (from_less 33 32 (decimal (nth + 1)) (lit≤ tt) first.bytes)
          (lit≤ tt, from_less 33 32 (decimal 1018) (lit≤ tt) second.bytes);
      short = omega (arith, length-append (decimal (nth + 1)) (32 ∷ decimal 1018), first.short, second.short);
      some = rw (record_words nth few) (lit< tt);
    }

-- ---- a block
no_numbers : (number : ℕ → Decimal) → [] ≡ numbers_from number 1 0
unfolding numbers_from
no_numbers number = refl

zero_rule : (state nth place : ℕ) → 1018 < place → trailing_rule (block_word state nth place) ≡ Ok tt
zero_rule state nth place high = ap trailing_rule (zero_at state nth place high)

further_is : (state nth k : ℕ) (e : Ephemeris) (later : List FileLine) → nth ≤ 40 → IsBefore nth e
    → further_numbers e 1018 [] (rows_at k (block_word state nth) 1 340 ++ later) ≡ Ok (block_numbers state nth, later)
unfolding block_numbers
further_is state nth k e later few is =
    let word = block_word state nth in
    let number = block_number state nth in
    let rows = rows_at k word 1 340 in
    let are = are_words TRUNCATED 1018 rows later (count_is 339 k word 1) in
    let numbers : numbers_of e [] (first_words 1018 rows) ≡ Ok (numbers_from number 1 1018) =
    ap (λ (l : List Decimal). numbers_of e l (first_words 1018 rows)) (no_numbers number) ∙ rows_numbers e word number (are_numbers state nth e few is) 339 0 k (lit≤ tt) in
    let zeros : zeros_of (further_words 1018 rows) ≡ Ok tt = rows_zeros 339 k word 1 (zero_rule state nth 1019 (lit< tt)) (zero_rule state nth 1020 (lit< tt)) in
    let none : lines_after 1018 rows ≡ [] = none_after 339 k word 1 in
    rw (are.more, are.words, are.further, numbers, zeros, none) refl

block_by : (e : Ephemeris) (line : FileLine) (rest : List FileLine) (r : Result (List Decimal × List FileLine) Stop) → record_rule e.header.ncoeff line.words ≡ Ok tt → e.header.ncoeff ≡ 1018
    → further_numbers e 1018 [] rest ≡ r → block e (line ∷ rest) ≡ r
block_by e line rest r rule is further = rw rule ((λ i. further_numbers e (is i) [] rest) ∙ further)

abbrev first_line_at : ℕ → ℕ → FileLine
first_line_at k nth = record { file = 0; number = k; words = tokens (record_line nth) }

block_read : (state nth k : ℕ) (e : Ephemeris) (later : List FileLine) → nth ≤ 40 → IsBefore nth e
    → block e (first_line_at k nth ∷ (rows_at (k + 1) (block_word state nth) 1 340 ++ later)) ≡ Ok (block_numbers state nth, later)
block_read state nth k e later few is =
    let ncoeff : e.header.ncoeff ≡ 1018 = ap (λ (h : Header). h.ncoeff) is.header in
    block_by e (first_line_at k nth) (rows_at (k + 1) (block_word state nth) 1 340 ++ later) (Ok (block_numbers state nth, later)) (record_is e.header.ncoeff nth few ncoeff) ncoeff (further_is state nth (k + 1) e later few is)

-- ---- all blocks
block_lines_at : (state nth k : ℕ) (rest : List (List ℕ)) → nth ≤ 40 → lines_at k (block_lines state nth ++ rest)
    ≡ first_line_at k nth ∷ (rows_at (k + 1) (block_word state nth) 1 340 ++ lines_at (k + 1 + length (rows_from (block_word state nth) 1 340)) rest)
unfolding block_lines lines_at
block_lines_at state nth k rest few =
    let word = block_word state nth in
    let rows = rows_from word 1 340 in
    let after = lines_at (k + 1 + length rows) rest in
    ap (λ (l : List FileLine). first_line_at k nth ∷ l)
    (lines_append (k + 1) rows rest ∙ ap (λ (l : List FileLine). l ++ after) (lines_rows (k + 1) word 1 340 (λ p. block_word_is state nth p few)))

no_lines : (f : ℕ) (e : Ephemeris) → e.blocks ≢ 0 → blocks_after f e [] ≡ Ok e
no_lines zero e some = rw (ne_eqb e.blocks 0 some) refl
no_lines (suc f) e some = rw (ne_eqb e.blocks 0 some) refl

next_block : (f : ℕ) (e : Ephemeris) (line : FileLine) (rest later : List FileLine) (numbers : List Decimal) → block e (line ∷ rest) ≡ Ok (numbers, later)
    → blocks_after (suc f) e (line ∷ rest) ≡ blocks_after f (with_numbers e numbers) later
next_block f e line rest later numbers is = rw is refl

blocks_read : (seed m f nth k : ℕ) → m ≤ f → nth + m ≤ 40 → 0 < nth + m
    → blocks_after f (before_at seed nth) (lines_at k (lines_from seed nth m)) ≡ Ok (generated_ephemeris (nth + m) seed)
unfolding lines_from lines_at generated_ephemeris
blocks_read seed zero f zero k within few some = absurd (omega (arith, some))
blocks_read seed zero f (suc nth) k within few some =
    let same : suc nth ≡ suc nth + 0 = omega arith in
    no_lines f (generated_ephemeris (suc nth) seed) (λ e. omega (arith, e)) ∙ ap (λ (n : ℕ). Ok (generated_ephemeris n seed)) same
blocks_read seed (suc m) zero nth k within few some = absurd (omega (arith, within))
blocks_read seed (suc m) (suc f) nth k within few some =
    let state = state_of seed nth in
    let rows = rows_from (block_word state nth) 1 340 in
    let before = before_at seed nth in
    let next = k + 1 + length rows in
    let later = lines_at next (lines_from seed (nth + 1) m) in
    let here : nth ≤ 40 = omega (arith, few) in
    let one : nth + 1 ≡ suc nth = omega arith in
    let all : suc nth + m ≡ nth + suc m = omega arith in
    ap (blocks_after (suc f) before) (block_lines_at state nth k (lines_from seed (nth + 1) m) here)
    ∙ next_block f before (first_line_at k nth) (rows_at (k + 1) (block_word state nth) 1 340 ++ later) later (block_numbers state nth)
    (block_read state nth k before later here (before_is seed nth))
    ∙ ap (λ (e : Ephemeris). blocks_after f e later) (with_block_is seed nth here)
    ∙ ap (λ (n : ℕ). blocks_after f (before_at seed (suc nth)) (lines_at next (lines_from seed n m))) one
    ∙ blocks_read seed m f (suc nth) next (omega (arith, within)) (omega (arith, few)) (omega arith)
    ∙ ap (λ (n : ℕ). Ok (generated_ephemeris n seed)) all

-- ---- the text
rows_count : (word : ℕ → List ℕ) (place rows : ℕ) → length (rows_from word place rows) ≡ rows
unfolding rows_from
rows_count word place zero = refl
rows_count word place (suc rows) = ap suc (rows_count word (place + 3) rows)

block_count : (state nth : ℕ) → length (block_lines state nth) ≡ 341
unfolding block_lines
block_count state nth = ap suc (rows_count (block_word state nth) 1 340)

lines_count : (seed nth m : ℕ) → length (lines_from seed nth m) ≡ 341 * m
unfolding lines_from
lines_count seed nth zero = refl
lines_count seed nth (suc m) =
    let state = state_of seed nth in
    omega (arith, length-append (block_lines state nth) (lines_from seed (nth + 1) m), block_count state nth, lines_count seed (nth + 1) m)

same_count : (k : ℕ) (ls : List (List ℕ)) → length (lines_at k ls) ≡ length ls
unfolding lines_at
same_count k [] = refl
same_count k (l ∷ ls) = ap suc (same_count (k + 1) ls)

block_short : (state nth : ℕ) → nth ≤ 40 → AreShortLines (block_lines state nth)
unfolding block_lines
block_short state nth few = (record_short nth few, rows_short (block_word state nth) 1 340 (λ p. block_word_is state nth p few))

blocks_short : (seed nth m : ℕ) → nth + m ≤ 40 → AreShortLines (lines_from seed nth m)
unfolding lines_from
blocks_short seed nth zero few = tt
blocks_short seed nth (suc m) few =
    short_append (block_lines (state_of seed nth) nth) (lines_from seed (nth + 1) m) (block_short (state_of seed nth) nth (omega (arith, few)))
    (blocks_short seed (nth + 1) m (omega (arith, few)))

header_then : (lines rest : List FileLine) (h : Header) (r : Result Ephemeris Stop) → header lines ≡ Ok (h, rest) → blocks h rest ≡ r → ephemeris lines ≡ r
header_then lines rest h r is then = rw is then

header_count : length header_lines ≡ 16
unfolding header_lines
header_count = refl

pub lines_read : (seed count : ℕ) → 0 < count → count ≤ 40 → ephemeris (lines_at 1 (header_lines ++ lines_from seed 0 count)) ≡ Ok (generated_ephemeris count seed)
unfolding blocks
lines_read seed count some few =
    let ls = lines_from seed 0 count in
    let n = 1 + length header_lines in
    let all : 0 + count ≡ count = omega arith in
    header_then (lines_at 1 (header_lines ++ ls)) (lines_at n ls) de405 (Ok (generated_ephemeris count seed)) (header_read ls)
    (blocks_read seed count (length (lines_at n ls)) 0 n (omega (arith, same_count n ls, lines_count seed 0 count)) (omega (arith, few)) (omega (arith, some))
    ∙ ap (λ (m : ℕ). Ok (generated_ephemeris m seed)) all)

-- what the text comes to
pub record IsAccepted (text : List ℕ) (e : Ephemeris) : Type 0 where
  pub no_fault : first_fault (text ∷ []) ≡ None
  pub accepted : outcome (text ∷ []) ≡ Ok e

accepted_by : (text : List ℕ) (e : Ephemeris) → first_cut (text ∷ []) ≡ None → ephemeris (joined (text ∷ [])) ≡ Ok e → IsAccepted text e
unfolding first_fault outcome
accepted_by text e whole read = record {
  no_fault = (λ i. fault_or_cut (whole i) (read i));
  accepted = (λ i. outcome_by (fault_or_cut (whole i) (read i)) (text ∷ []) (read i));
}

pub text_accepted : (count seed : ℕ) → 0 < count → count ≤ 40 → IsAccepted (generated_text count seed) (generated_ephemeris count seed)
unfolding generated_text
text_accepted count seed some few =
    let ls = header_lines ++ lines_from seed 0 count in
    let short = short_append header_lines (lines_from seed 0 count) header_short (blocks_short seed 0 count (omega (arith, few))) in
    let size : length ls ≤ 1000000 = omega (arith, length-append header_lines (lines_from seed 0 count), header_count, lines_count seed 0 count, few) in
    let file = is_file ls short size in
    accepted_by (joined_lines ls) (generated_ephemeris count seed) file.whole (ap ephemeris file.lines ∙ lines_read seed count some few)

pub text_checked : (count seed : ℕ) → 0 < count → count ≤ 40 → IsEphemeris (generated_ephemeris count seed)
text_checked count seed some few =
    let ls = lines_at 1 (header_lines ++ lines_from seed 0 count) in
    (holds_ok HasBlocks (ephemeris ls) (generated_ephemeris count seed) (lines_read seed count some few) (ephemeris_holds ls)).0
