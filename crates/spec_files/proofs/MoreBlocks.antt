-- The blocks of lines, and of more lines.
use Rattle.std.proofs.Common.{◌≡◌, ◌≤◌, ◌-◌, ◌==◌, ℕ, zero, suc, Bool, true, false, List, [], ◌∷◌, ◌++◌, length, Result, Ok, Err, refl, sym, ap, subst, arith, inl, inr}
use Rattle.std.specs.Prelude.{if◌then◌else◌}
use Rattle.std.proofs.lemmas.Bool.{cases_eq}
use Rattle.std.proofs.lemmas.List.{length-append}
use Rattle.spec_text.specs.declared.decimals.Decimal.{Decimal}
use Rattle.spec_ephemeris.specs.Ephemeris.{Ephemeris}
use Rattle.spec_ephemeris.specs.declared.header.Header.{Header}
use Rattle.spec_files.specs.declared.rules.BrokenRule.{BrokenRule}
use Rattle.spec_files.specs.Sections.{FileLine, FileWord, Stop, ended, breaks, ◌>>=◌, at_line, first_words}
use Rattle.spec_faults.specs.declared.numbers.TheConstants.{NO_BLOCK, TRUNCATED}
use Rattle.spec_files.specs.BlockRules.{number_rule, record_line}
use Rattle.spec_files.specs.Blocks.{block, blocks, blocks_after, further_numbers, further_words, no_blocks, numbers_of, with_numbers, zeros_of}
use Rattle.spec_files.specs.Lines.{ephemeris}
use Rattle.spec_files.proofs.MoreHeader.{header_keeps}
use Rattle.spec_files.proofs.MoreLines.{Keeps, KeepsFault, are_words, at_most_words, first_words-more, line_keeps, no_further, not_words, section_end, section_then}

word_keeps : (file line : ℕ) (number : Result Decimal BrokenRule) (few more : Decimal → Result (List Decimal) Stop)
    → ((d : Decimal) → KeepsFault (few d) (more d)) → KeepsFault (at_line file line number >>= few) (at_line file line number >>= more)
word_keeps file line (Ok d) few more all = all d
word_keeps file line (Err rule) few more all = refl

numbers_keep : (before : Ephemeris) (numbers : List Decimal) (words later : List FileWord) → KeepsFault (numbers_of before numbers words) (numbers_of before numbers (words ++ later))
numbers_keep before numbers [] later = tt
numbers_keep before numbers (word ∷ words) later =
    word_keeps word.file word.line (number_rule before numbers word.text) _ _ (λ d. numbers_keep before (numbers ++ d ∷ []) words later)

-- what has no zeros to be looked at, and too few words
ends_early : (later : List FileLine) (late : ℕ) (few more : Result (List Decimal) Stop) (k l : List Decimal → Result (List Decimal × List FileLine) Stop) → KeepsFault few more → ((all : List Decimal) → k all ≡ Err (ended late))
    → Keeps later (few >>= k) (more >>= l)
ends_early later late (Ok all) more k l keeps early = rw (early all) tt
ends_early later late (Err (ended number)) more k l keeps early = tt
ends_early later late (Err (breaks file fault)) more k l keeps early = ap (λ (r : Result (List Decimal) Stop). r >>= l) keeps

-- the same words, and the lines after them
same_then : {A B : Type 0} (later : List FileLine) (r : Result A Stop) (k l : A → Result (B × List FileLine) Stop)
    → ((x : A) → Keeps later (k x) (l x)) → Keeps later (r >>= k) (r >>= l)
same_then later (Ok x) k l all = all x
same_then later (Err (ended late)) k l all = tt
same_then later (Err (breaks file fault)) k l all = refl

further_keep : (later : List FileLine) (before : Ephemeris) (n : ℕ) (numbers : List Decimal) (lines : List FileLine)
    → Keeps later (further_numbers before n numbers lines) (further_numbers before n numbers (lines ++ later))
further_keep later before n numbers lines = elim (cases_eq (length (first_words n lines)) n) [
  | inl all ↦
      let are = are_words TRUNCATED n lines later all in
      rw (are.fewer, are.more, are.words, are.further)
      (same_then later (numbers_of before numbers (first_words n lines)) _ _ (λ found.
      same_then later (zeros_of (further_words n lines)) _ _ (λ zeros. refl)))
  | inr other ↦
      let most = at_most_words n lines in
      let none = no_further n lines (omega (arith, most, other)) in
      ends_early later TRUNCATED _ _ _ _
      (subst (λ (ws : List FileWord). KeepsFault (numbers_of before numbers (first_words n lines)) (numbers_of before numbers ws)) (sym (first_words-more n lines later))
      (numbers_keep before numbers (first_words n lines) (first_words (n - length (first_words n lines)) later)))
      (λ all. rw (none, not_words TRUNCATED n lines other) refl)
]

block_keeps : (later : List FileLine) (before : Ephemeris) (lines : List FileLine) → Keeps later (block before lines) (block before (lines ++ later))
block_keeps later before lines =
    section_then later _ _ _ (line_keeps later TRUNCATED (record_line before.header.ncoeff) lines)
    (λ heading. further_keep later before before.header.ncoeff [] heading.1)

no_fault_where : (none : Bool) (e : Ephemeris) (more : Result Ephemeris Stop) → KeepsFault (if none then Err (ended NO_BLOCK) else Ok e) more
no_fault_where true e more = tt
no_fault_where false e more = tt

blocks_after_keep : (later : List FileLine) (m n : ℕ) (before : Ephemeris) (lines : List FileLine) → m ≤ n
    → KeepsFault (blocks_after m before lines) (blocks_after n before (lines ++ later))
blocks_after_keep later m n before [] within = no_fault_where (before.blocks == 0) before (blocks_after n before later)
blocks_after_keep later zero n before (line ∷ rest) within = tt
blocks_after_keep later (suc m) zero before (line ∷ rest) within = absurd (omega (arith, within))
blocks_after_keep later (suc m) (suc n) before (line ∷ rest) within =
    section_end later _ _ (λ found. blocks_after m (with_numbers before found.0) found.1) (λ found. blocks_after n (with_numbers before found.0) found.1)
    (block_keeps later before (line ∷ rest)) (λ found. blocks_after_keep later m n (with_numbers before found.0) found.1 (omega (arith, within)))

blocks_keep : (later : List FileLine) (h : Header) (lines : List FileLine) → KeepsFault (blocks h lines) (blocks h (lines ++ later))
unfolding blocks
blocks_keep later h lines =
    let size = length-append lines later in
    blocks_after_keep later (length lines) (length (lines ++ later)) (no_blocks h) lines (omega (arith, size))

-- lines that break a rule break it whatever lines follow
pub ephemeris_keeps : (lines later : List FileLine) → KeepsFault (ephemeris lines) (ephemeris (lines ++ later))
ephemeris_keeps lines later = section_end later _ _ (λ found. blocks found.0 found.1) (λ found. blocks found.0 found.1) (header_keeps later lines) (λ found. blocks_keep later found.0 found.1)
