-- What the words of one line do to a block.
use Rattle.std.specs.Prelude.{◌≡◌, ℕ, ◌-◌, ◌<◌, List, [], ◌∷◌, ◌++◌, length, take, drop, Result, Ok, Err}
use Rattle.spec_text.specs.declared.decimals.Decimal.{Decimal}
use Rattle.spec_ephemeris.specs.Ephemeris.{Ephemeris}
use Rattle.spec_files.specs.declared.rules.BrokenRule.{BrokenRule}
use Rattle.spec_files.specs.Sections.{◌>>=◌, ruled_at}
use Rattle.spec_files.specs.declared.errors.ReadError.{ReadError}
use Rattle.spec_files.specs.declared.errors.ReadError.TheVariants.{Fault, Memory}
use Rattle.spec_text.specs.Lines.{TokenLine}
use Rattle.spec_files.specs.BlockRules.{number_rule, trailing_rule}
use Rattle.spec_files.specs.Blocks.{with_numbers}
use Rattle.de_blocks.specs.declared.state.Place.{Place}
use Rattle.de_blocks.specs.declared.state.Place.TheVariants.{Between, Inside, Refused}

-- words as numbers after these
abbrev pub numbers_on : Ephemeris → List Decimal → List (List ℕ) → Result (List Decimal) BrokenRule
numbers_on before numbers [] = Ok numbers
numbers_on before numbers (word ∷ words) = number_rule before numbers word >>= λ d. numbers_on before (numbers ++ d ∷ []) words

abbrev pub zeros_on : List (List ℕ) → Result (Unit {0}) BrokenRule
zeros_on [] = Ok tt
zeros_on (word ∷ words) = trailing_rule word >>= λ zero. zeros_on words

-- how many numbers a block wants after these
abbrev pub wanted : Ephemeris → List Decimal → ℕ
wanted before numbers = before.header.ncoeff - length numbers

-- the numbers with those of a line
abbrev pub on_line : Ephemeris → List Decimal → List (List ℕ) → Result (List Decimal) BrokenRule
on_line before numbers words = do
  all ← numbers_on before numbers (take (wanted before numbers) words)
  zeros ← zeros_on (drop (wanted before numbers) words)
  Ok all

-- the numbers of the line of this number are those that the rules give, or the fault is that of the first broken rule;
-- out of memory there may be neither
abbrev pub Reads : ℕ → Result (List Decimal) BrokenRule → Result (Unit {0}) ReadError → List Decimal → Type 0
Reads line ruled (Ok done) new = ruled ≡ Ok new
Reads line ruled (Err (Fault fault)) new = ruled_at line ruled ≡ Err fault
Reads line ruled (Err Memory) new = Unit {0}

-- a word becomes the next number, or breaks its rule; where it does not become one the numbers are as they were
abbrev pub Pushes : Ephemeris → List Decimal → ℕ → List ℕ → Result (Unit {0}) ReadError → List Decimal → Type 0
Pushes before numbers line word (Ok done) new = (d : Decimal) × (number_rule before numbers word ≡ Ok d) × (new ≡ numbers ++ d ∷ [])
Pushes before numbers line word (Err (Fault fault)) new = (ruled_at line (number_rule before numbers word) ≡ Err fault) × (new ≡ numbers)
Pushes before numbers line word (Err Memory) new = new ≡ numbers

-- the same of the numbers alone, and the words that are left after them
abbrev pub ReadsNumbers : Ephemeris → List Decimal → ℕ → List (List ℕ) → Result (Unit {0}) ReadError → List Decimal → List (List ℕ) → Type 0
ReadsNumbers before numbers line words (Ok done) new left =
    (numbers_on before numbers (take (wanted before numbers) words) ≡ Ok new) × (left ≡ drop (wanted before numbers) words)
ReadsNumbers before numbers line words (Err (Fault fault)) new left =
    ruled_at line (numbers_on before numbers (take (wanted before numbers) words)) ≡ Err fault
ReadsNumbers before numbers line words (Err Memory) new left = Unit {0}

-- a line within a block leaves the block open, or makes it whole, or breaks a rule; out of memory there may be no
-- answer. Where there is none the blocks stay as they were, and the numbers begin with those that there were.
abbrev pub TakesLine : Ephemeris → List Decimal → TokenLine → Result Place ReadError → Ephemeris → List Decimal → Type 0
TakesLine before numbers line (Ok Inside) after new =
    (on_line before numbers line.tokens ≡ Ok new) × (length new < before.header.ncoeff) × (after ≡ before)
TakesLine before numbers line (Ok Between) after new =
    (all : List Decimal) × (on_line before numbers line.tokens ≡ Ok all) × (length all ≡ before.header.ncoeff) × (after ≡ with_numbers before all) × (new ≡ [])
TakesLine before numbers line (Ok (Refused fault)) after new = ⊥
TakesLine before numbers line (Err (Fault fault)) after new =
    (ruled_at line.number (on_line before numbers line.tokens) ≡ Err fault) × (after ≡ before) × (take (length numbers) new ≡ numbers)
TakesLine before numbers line (Err Memory) after new = (after ≡ before) × (take (length numbers) new ≡ numbers)
