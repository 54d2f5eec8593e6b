-- Marks by number.
use Rattle.std.specs.Prelude.{ℕ}
use Rattle.spec_trees.specs.declared.tree.Mark.{Mark}
use Rattle.spec_trees.specs.declared.tree.Mark.TheVariants.{Clear, One, Undecided}
use Rattle.spec_trees.specs.declared.tree.Turn.TheVariants.{Rise, Fall}

abbrev pub mark_number : Mark → ℕ
mark_number Clear = 0
mark_number (One Rise) = 1
mark_number (One Fall) = 2
mark_number Undecided = 3
