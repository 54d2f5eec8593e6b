-- The lines of a file that are read, and the fault where they end.
use Rattle.std.specs.Prelude.{ℕ, List, [], ◌∷◌, Option, None, Some, if◌then◌else◌}
use Rattle.spec_text.specs.Lines.{Numbered, TokenLine, is_too_long, tokens}
use Rattle.spec_text.specs.declared.decimals.Fault.{Fault}
use Rattle.spec_faults.specs.declared.numbers.TheConstants.{LINE_TOO_LONG}
use Rattle.spec_files.specs.Sections.{FileLine, Stop, ended, breaks, broken, line_fault}

-- a line of this file
abbrev pub line_of : ℕ → TokenLine → FileLine
line_of file line = record { file = file; number = line.number; words = line.tokens }

-- the lines of a file before the first that is too long
abbrev pub readable : ℕ → List Numbered → List FileLine
readable file [] = []
readable file (line ∷ rest) =
    if is_too_long line then [] else record { file = file; number = line.number; words = tokens line.bytes } ∷ readable file rest

-- the first line of a file that is too long
abbrev pub first_long : List Numbered → Option Fault
first_long [] = None
first_long (line ∷ rest) = if is_too_long line then Some (line_fault line.number (broken LINE_TOO_LONG 0)) else first_long rest

-- the fault of lines that are refused, where they end at this number
abbrev pub stopped_at : ℕ → Stop → Fault
stopped_at end (ended late) = line_fault end (broken late 0)
stopped_at end (breaks file fault) = fault
