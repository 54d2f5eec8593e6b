-- The next step of a cursor.
use Rattle.std.specs.Prelude.{List, [], ◌∷◌, if◌then◌else◌}
use Rattle.spec_text.specs.Lines.{Numbered, is_too_long, token_line}
use Rattle.de_text.specs.declared.cursor.LineStep.{LineStep}
use Rattle.de_text.specs.declared.cursor.LineStep.TheVariants.{Line, TooLong, End}

-- the answer of a cursor that has these lines left
abbrev pub step_of : List Numbered → LineStep
step_of [] = End
step_of (line ∷ rest) = if is_too_long line then TooLong line.number else Line (token_line line)

-- the lines that it then has left: it stays at a line that is too long
abbrev pub lines_after : List Numbered → List Numbered
lines_after [] = []
lines_after (line ∷ rest) = if is_too_long line then line ∷ rest else rest
