-- The lines of generated blocks, and their numbers. Blocks are counted from 0, and places from 1.
use Rattle.std.specs.Prelude.{ℕ, zero, suc, ◌+◌, ◌*◌, List, [], ◌∷◌, ◌++◌, codes}
use Rattle.std.specs.Fmt.{decimal}
use Rattle.spec_text.specs.Bytes.{blank}
use Rattle.spec_text.specs.declared.decimals.Decimal.{Decimal}
use Rattle.spec_generated.specs.Draws.{state_after}
use Rattle.spec_generated.specs.Words.{block_number, block_word}
use Rattle.spec_generated.specs.declared.limits.TheConstants.{DRAWS, NCOEFF, ROWS}

-- the words at three places, from this one on
abbrev pub row : (ℕ → List ℕ) → ℕ → List ℕ
row word place = word place ++ blank ∷ (word (place + 1) ++ blank ∷ word (place + 2))

-- so many rows, the first of which begins at this place
unfoldable pub rows_from : (ℕ → List ℕ) → ℕ → ℕ → List (List ℕ)
rows_from word place zero = []
rows_from word place (suc rows) = row word place ∷ rows_from word (place + 3) rows

-- the record number, counted from 1, and NCOEFF
abbrev pub record_line : ℕ → List ℕ
record_line block = decimal (block + 1) ++ (codes " " ++ decimal NCOEFF)

-- the lines of a block that begins with this state
unfoldable pub block_lines : ℕ → ℕ → List (List ℕ)
block_lines state block = record_line block ∷ rows_from (block_word state block) 1 ROWS

-- the state with which a block begins
abbrev pub state_of : ℕ → ℕ → ℕ
state_of seed block = state_after seed (DRAWS * block)

-- the lines of so many blocks from this one on
unfoldable pub lines_from : ℕ → ℕ → ℕ → List (List ℕ)
lines_from seed block zero = []
lines_from seed block (suc blocks) = block_lines (state_of seed block) block ++ lines_from seed (block + 1) blocks

-- the numbers at so many places, from this one on
unfoldable pub numbers_from : (ℕ → Decimal) → ℕ → ℕ → List Decimal
numbers_from number place zero = []
numbers_from number place (suc places) = number place ∷ numbers_from number (place + 1) places

-- the numbers of a block that begins with this state
unfoldable pub block_numbers : ℕ → ℕ → List Decimal
block_numbers state block = numbers_from (block_number state block) 1 NCOEFF

-- the numbers of the first blocks
unfoldable pub numbers_of : ℕ → ℕ → List Decimal
numbers_of seed zero = []
numbers_of seed (suc blocks) = numbers_of seed blocks ++ block_numbers (state_of seed blocks) blocks
