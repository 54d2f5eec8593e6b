-- Short names for worked values.
use Rattle.std.specs.Prelude.{List, [], ◌∷◌, ℤ, pos, if◌then◌else◌}
use Rattle.spec_trees.specs.declared.tree.Node.{Node}
use Rattle.spec_trees.specs.declared.book.Booked.{Booked}
use Rattle.spec_trees.specs.declared.tree.Leaf.{Leaf}
use Rattle.spec_trees.specs.declared.tree.Mark.{Mark}
use Rattle.spec_trees.specs.declared.tree.Mark.TheVariants.{Clear, One, Undecided}
use Rattle.spec_trees.specs.declared.tree.Turn.TheVariants.{Rise, Fall}
use Rattle.spec_trees.specs.declared.tree.Verdict.TheVariants as V
use Rattle.spec_trees.specs.declared.window.Holds.{Holds}
use Rattle.spec_trees.specs.declared.window.Holds.TheVariants as H
use Rattle.spec_trees.specs.declared.window.Window.{Window}
use Rattle.spec_trees.specs.Cuts.{is_wide, halves}
use Rattle.spec_trees.specs.Tree.{Rules, leaf_of}

abbrev pub node : ℤ → ℤ → Node
node a b = record { a = a; b = b; depth = 0 }

abbrev pub leaf : ℤ → ℤ → Mark → Leaf
leaf a b m = leaf_of (node a b) m

abbrev pub booked : Leaf → Booked
booked l = record { leaf = l; seat = 0 }

abbrev pub window : ℤ → ℤ → Holds → Window
window first last holds = record { first = first; last = last; holds = holds }

-- each node wider than one unit is split
abbrev pub single_units : Rules
single_units = record { first = pos 0; last = pos 8; deepest = 0; verdict = λ n. if is_wide n then V.Split else V.Clear; parts = halves }

-- three units of time, each a leaf of its own
abbrev pub three_units : List Leaf
three_units = leaf (pos 0) (pos 1) Clear ∷ leaf (pos 1) (pos 2) Clear ∷ leaf (pos 2) (pos 3) Clear ∷ []

-- two undecided leaves after a clear one, one with one event, and an undecided one
abbrev pub five_leaves : List Leaf
five_leaves =
    leaf (pos 0) (pos 2) Clear
    ∷ leaf (pos 2) (pos 3) Undecided
    ∷ leaf (pos 3) (pos 4) Undecided
    ∷ leaf (pos 4) (pos 5) (One Rise)
    ∷ leaf (pos 5) (pos 6) Undecided
    ∷ []

abbrev pub three_windows : List Window
three_windows =
    window (pos 3) (pos 4) H.Undecided
    ∷ window (pos 5) (pos 5) (H.Certain Rise)
    ∷ window (pos 6) (pos 6) H.Undecided
    ∷ []

-- four leaves as they came
abbrev pub four_entries : List Booked
four_entries =
    booked (leaf (pos 4) (pos 5) Undecided)
    ∷ booked (leaf (pos 0) (pos 2) (One Rise))
    ∷ booked (leaf (pos 2) (pos 4) Undecided)
    ∷ booked (leaf (pos 5) (pos 6) (One Fall))
    ∷ []

-- and in order
abbrev pub four_leaves : List Leaf
four_leaves =
    leaf (pos 0) (pos 2) (One Rise)
    ∷ leaf (pos 2) (pos 4) Undecided
    ∷ leaf (pos 4) (pos 5) Undecided
    ∷ leaf (pos 5) (pos 6) (One Fall)
    ∷ []
