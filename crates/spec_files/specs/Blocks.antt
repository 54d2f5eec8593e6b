-- The blocks of a list of lines, and the ephemeris that they are.
use Rattle.std.specs.Prelude.{ℕ, zero, suc, ◌-◌, ◌==◌, List, [], ◌∷◌, ◌++◌, length, map, drop, Result, Ok, Err, ℤ, pos, if◌then◌else◌}
use Rattle.spec_text.specs.declared.decimals.Decimal.{Decimal}
use Rattle.spec_ephemeris.specs.declared.header.Header.{Header}
use Rattle.spec_ephemeris.specs.Ephemeris.{Ephemeris, empty_ephemeris, with_block}
use Rattle.spec_files.specs.declared.rules.BrokenRule.{BrokenRule}
use Rattle.spec_files.specs.Sections.{FileLine, FileWord, Stop, ended, ◌>>=◌, at_line, after_words, first_words, one_line, word_of}
use Rattle.spec_faults.specs.declared.numbers.TheConstants.{NO_BLOCK, TRUNCATED}
use Rattle.spec_files.specs.BlockRules.{is_skipped, number_rule, record_line, time_of, trailing_rule}

-- words as numbers, each by its rule, after these numbers of a block that stands after the blocks before
abbrev pub numbers_of : Ephemeris → List Decimal → List FileWord → Result (List Decimal) Stop
numbers_of before numbers [] = Ok numbers
numbers_of before numbers (word ∷ words) =
    at_line word.file word.line (number_rule before numbers word.text) >>= λ d. numbers_of before (numbers ++ d ∷ []) words

-- words that stand after the last number of a block
abbrev pub zeros_of : List FileWord → Result (Unit {0}) Stop
zeros_of [] = Ok tt
zeros_of (word ∷ words) = at_line word.file word.line (trailing_rule word.text) >>= λ zero. zeros_of words

-- the words after the first n, on the line of the last of these
abbrev pub further_words : ℕ → List FileLine → List FileWord
further_words n [] = []
further_words n (line ∷ rest) = if n == 0 then [] else map (word_of line) (drop n line.words) ++ further_words (n - length line.words) rest

-- the n numbers that a block has after these, and the lines after it
abbrev pub further_numbers : Ephemeris → ℕ → List Decimal → List FileLine → Result (List Decimal × List FileLine) Stop
further_numbers before n numbers lines = do
  all ← numbers_of before numbers (first_words n lines)
  zeros ← zeros_of (further_words n lines)
  rest ← after_words TRUNCATED n lines
  Ok (all, rest)

-- a block after the blocks before: a record line, and the lines that hold NCOEFF words
abbrev pub block : Ephemeris → List FileLine → Result (List Decimal × List FileLine) Stop
block before lines = do
  heading ← one_line TRUNCATED (record_line before.header.ncoeff) lines
  further_numbers before before.header.ncoeff [] heading.1

-- the first block says when the ephemeris begins
abbrev pub begun : Ephemeris → ℤ → Ephemeris
begun before start = if before.blocks == 0 then empty_ephemeris before.header start else before

abbrev pub accept : Ephemeris → List Decimal → Result ℤ BrokenRule → Result ℤ BrokenRule → Ephemeris
accept before numbers (Ok start) (Ok end) = if is_skipped before end then before else with_block (begun before start) numbers
accept before numbers start end = before

-- the blocks before, and one with these numbers where it is not skipped
abbrev pub with_numbers : Ephemeris → List Decimal → Ephemeris
with_numbers before (first ∷ second ∷ numbers) = accept before (first ∷ second ∷ numbers) (time_of first) (time_of second)
with_numbers before numbers = before

-- the blocks before and those of the lines, at most n of them
abbrev pub blocks_after : ℕ → Ephemeris → List FileLine → Result Ephemeris Stop
blocks_after n before [] = if before.blocks == 0 then Err (ended NO_BLOCK) else Ok before
blocks_after zero before (line ∷ rest) = Err (ended TRUNCATED)
blocks_after (suc n) before (line ∷ rest) = block before (line ∷ rest) >>= λ found. blocks_after n (with_numbers before found.0) found.1

-- an ephemeris of which nothing but the header is known
abbrev pub no_blocks : Header → Ephemeris
no_blocks h = empty_ephemeris h (pos 0)

-- the ephemeris of the lines after a header, or why they are refused; a block takes a line or more
unfoldable pub blocks : Header → List FileLine → Result Ephemeris Stop
blocks h lines = blocks_after (length lines) (no_blocks h) lines
