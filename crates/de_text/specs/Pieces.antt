-- A text that comes in pieces.
use Rattle.std.specs.Prelude.{◌≡◌, ℕ, List, ◌++◌}
use Rattle.spec_text.specs.Lines.{lines}

-- the lines of this text stay as they are, and those of any text after it are lines of their own
abbrev pub AreWholeLines : List ℕ → Type 0
AreWholeLines text = (more : List ℕ) → lines (text ++ more) ≡ lines text ++ lines more
