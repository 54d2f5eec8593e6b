-- What a cursor over a text shows.
use Rattle.std.specs.Prelude.{ℕ, ◌+◌, List}
use Rattle.spec_text.specs.Lines.{Numbered, lines, numbered_from, counted_lines}

-- the lines that are left and are not skipped, and the number of lines of the whole text plus 1
pub record Cursor : Type 0 where
  pub left : List Numbered
  pub end_line : ℕ

-- the lines of a text that are not skipped, where so many lines stand before the text
abbrev pub counted_after : ℕ → List ℕ → List Numbered
counted_after before text = counted_lines (numbered_from (before + 1) (lines text))
