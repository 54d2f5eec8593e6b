-- Leaves put in order of time, and the windows of a book.
use Rattle.std.specs.Prelude.{ℤ, List, [], ◌∷◌, map, int_lt, if◌then◌else◌}
use Rattle.spec_trees.specs.declared.book.Booked.{Booked}
use Rattle.spec_trees.specs.declared.tree.Leaf.{Leaf}
use Rattle.spec_trees.specs.declared.tree.Node.{Node}
use Rattle.spec_trees.specs.declared.window.Window.{Window}
use Rattle.spec_trees.specs.Tree.{Covers}
use Rattle.spec_trees.specs.Windows.{windows}

-- the time after which a leaf begins
abbrev pub beginning : Leaf → ℤ
beginning l = l.node.a

-- before the first of the leaves that does not begin earlier
unfoldable pub inserted : Leaf → List Leaf → List Leaf
inserted l [] = l ∷ []
inserted l (m ∷ ms) = if int_lt m.node.a l.node.a then m ∷ inserted l ms else l ∷ m ∷ ms

-- in order of their beginnings; leaves that begin together keep their order
unfoldable pub in_order : List Leaf → List Leaf
in_order [] = []
in_order (l ∷ ls) = inserted l (in_order ls)

abbrev pub booked_leaves : List Booked → List Leaf
booked_leaves entries = map (λ e. e.leaf) entries

-- the leaves of a book, put in order
abbrev pub ordered_leaves : List Booked → List Leaf
ordered_leaves entries = in_order (booked_leaves entries)

-- the leaves of a book's entries follow one another over its root, in whatever order they were entered
abbrev pub CoverRoot : Node → List Booked → Type 0
CoverRoot root entries = Covers root.a (ordered_leaves entries) root.b

-- the windows of a book's leaves, in order of time
abbrev pub book_windows : List Booked → List Window
book_windows entries = windows (ordered_leaves entries)
