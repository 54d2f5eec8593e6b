-- The lines of several texts as one list: the texts are files, one after the other.
use Rattle.std.specs.Prelude.{ℕ, ◌+◌, ◌-◌, nat_lt, Bool, List, [], ◌∷◌, ◌++◌, length, Option, None, Some, if◌then◌else◌}
use Rattle.spec_text.specs.Lines.{lines, text_lines}
use Rattle.spec_text.specs.declared.decimals.Fault.{Fault}
use Rattle.spec_text.specs.declared.limits.TheConstants.{MAX_TEXT_BYTES}
use Rattle.spec_files.specs.FileLines.{first_long, readable}
use Rattle.spec_files.specs.Sections.{FileLine}
use Rattle.spec_faults.specs.declared.numbers.TheConstants.{FILE_TOO_LARGE}

-- a fault without a detail
abbrev pub fault_at : ℕ → ℕ → Fault
fault_at line number = record { line = line; number = number; detail = 0 }

-- a text of more bytes than a file may have
abbrev pub is_too_large : List ℕ → Bool
is_too_large text = nat_lt MAX_TEXT_BYTES (length text)

-- why a text cannot be read to its end: it is too large, or has a line that is too long
abbrev pub cut_off : List ℕ → Option Fault
cut_off text = if is_too_large text then Some (fault_at 0 FILE_TOO_LARGE) else first_long (text_lines text)

-- the lines of a text that can be read, as those of this file; blank lines are left out
abbrev pub file_lines : ℕ → List ℕ → List FileLine
file_lines file text = if is_too_large text then [] else readable file (text_lines text)

abbrev pub where_whole : Option Fault → List FileLine → List FileLine
where_whole None later = later
where_whole (Some fault) later = []

-- the lines of texts that can be read; the first of these texts is this file, and files are counted from 0
abbrev pub joined_from : ℕ → List (List ℕ) → List FileLine
joined_from file [] = []
joined_from file (text ∷ rest) = file_lines file text ++ where_whole (cut_off text) (joined_from (file + 1) rest)

-- a file and its fault, or a later one
abbrev pub or_later : ℕ → Option Fault → Option (ℕ × Fault) → Option (ℕ × Fault)
or_later file None later = later
or_later file (Some fault) later = Some (file, fault)

-- the first text that cannot be read to its end
abbrev pub first_cut_from : ℕ → List (List ℕ) → Option (ℕ × Fault)
first_cut_from file [] = None
first_cut_from file (text ∷ rest) = or_later file (cut_off text) (first_cut_from (file + 1) rest)

abbrev pub joined : List (List ℕ) → List FileLine
joined texts = joined_from 0 texts

abbrev pub first_cut : List (List ℕ) → Option (ℕ × Fault)
first_cut texts = first_cut_from 0 texts

-- the number of lines of the last text plus 1
abbrev pub end_line : List (List ℕ) → ℕ
end_line [] = 1
end_line (text ∷ []) = length (lines text) + 1
end_line (text ∷ next ∷ rest) = end_line (next ∷ rest)

-- the fault of this number after the last line of all
abbrev pub at_end : List (List ℕ) → ℕ → ℕ × Fault
at_end texts number = (length texts - 1, fault_at (end_line texts) number)
