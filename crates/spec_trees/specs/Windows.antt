-- The windows of leaves that follow one another.
use Rattle.std.specs.Prelude.{Bool, true, false, List, [], ◌∷◌, if◌then◌else◌, ℤ, pos, ◌+ℤ◌}
use Rattle.spec_trees.specs.declared.tree.Node.{Node}
use Rattle.spec_trees.specs.declared.tree.Leaf.{Leaf}
use Rattle.spec_trees.specs.declared.tree.Mark.{Mark}
use Rattle.spec_trees.specs.declared.tree.Mark.TheVariants as M
use Rattle.spec_trees.specs.declared.window.Holds.{Holds}
use Rattle.spec_trees.specs.declared.window.Holds.TheVariants as H
use Rattle.spec_trees.specs.declared.window.Window.{Window}

-- a node [a, b] stands for the times a + 1 to b
abbrev pub window_of : Node → Holds → Window
window_of n h = record { first = n.a +ℤ pos 1; last = n.b; holds = h }

abbrev pub is_undecided : Mark → Bool
is_undecided M.Clear = false
is_undecided (M.One turn) = false
is_undecided M.Undecided = true

abbrev pub begin_undecided : List Leaf → Bool
begin_undecided [] = false
begin_undecided (l ∷ ls) = is_undecided l.mark

-- the first of the windows begins earlier
abbrev pub widened : ℤ → List Window → List Window
widened first [] = []
widened first (w ∷ ws) = record w { first = first } ∷ ws

-- a leaf before other leaves and their windows: an undecided one joins the window of an undecided one after it
abbrev pub windows_by : Mark → Node → List Leaf → List Window → List Window
windows_by M.Clear n ls ws = ws
windows_by (M.One turn) n ls ws = window_of n (H.Certain turn) ∷ ws
windows_by M.Undecided n ls ws = if begin_undecided ls then widened (n.a +ℤ pos 1) ws else window_of n H.Undecided ∷ ws

-- each leaf with one event is a window, and so is each longest run of undecided leaves
abbrev pub windows : List Leaf → List Window
windows [] = []
windows (l ∷ ls) = windows_by l.mark l.node ls (windows ls)
