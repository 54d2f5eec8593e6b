-- Windows of two spans that meet, and an ephemeris of three small blocks, for worked values.
use Rattle.std.specs.Prelude.{List, [], ◌∷◌, pos}
use Rattle.spec_ephemeris.specs.declared.header.Header.{Header}
use Rattle.spec_ephemeris.specs.Ephemeris.{Ephemeris}
use Rattle.spec_ephemeris.specs.Examples.{whole}
use Rattle.spec_trees.specs.declared.tree.Turn.TheVariants.{Rise}
use Rattle.spec_trees.specs.declared.window.Holds.TheVariants.{Certain, Undecided}
use Rattle.spec_trees.specs.declared.window.Window.{Window}
use Rattle.spec_trees.specs.Examples.{window}

-- an event, and an undecided window that ends with the span
abbrev pub earlier : List Window
earlier = window (pos 1) (pos 1) (Certain Rise) ∷ window (pos 4) (pos 6) Undecided ∷ []

-- an undecided window from the next tick on, and an event
abbrev pub later : List Window
later = window (pos 7) (pos 8) Undecided ∷ window (pos 9) (pos 9) (Certain Rise) ∷ []

-- an undecided window from the tick after that on
abbrev pub later_by_one : List Window
later_by_one = window (pos 8) (pos 8) Undecided ∷ []

-- two numbers a block, and no column
abbrev pub two_numbers : Header
two_numbers = record { ncoeff = 2; block_seconds = pos 100; emrat = whole (pos 1); columns = [] }

abbrev pub three_blocks : Ephemeris
three_blocks = record {
  header = two_numbers;
  start = pos 1000;
  blocks = 3;
  numbers = whole (pos 1) ∷ whole (pos 2) ∷ whole (pos 3) ∷ whole (pos 4) ∷ whole (pos 5) ∷ whole (pos 6) ∷ [];
}

abbrev pub last_two_blocks : Ephemeris
last_two_blocks = record {
  header = two_numbers;
  start = pos 1100;
  blocks = 2;
  numbers = whole (pos 3) ∷ whole (pos 4) ∷ whole (pos 5) ∷ whole (pos 6) ∷ [];
}
