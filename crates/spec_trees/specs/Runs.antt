-- The windows from left to right, where the undecided leaves just passed may go on: what a walk over leaves keeps.
use Rattle.std.specs.Prelude.{List, [], ◌∷◌, Option, Some, None}
use Rattle.spec_trees.specs.declared.tree.Node.{Node}
use Rattle.spec_trees.specs.declared.tree.Leaf.{Leaf}
use Rattle.spec_trees.specs.declared.tree.Mark.TheVariants as M
use Rattle.spec_trees.specs.declared.window.Holds.TheVariants as H
use Rattle.spec_trees.specs.declared.window.Window.{Window}
use Rattle.spec_trees.specs.Windows.{window_of}

-- the window of undecided leaves, if there are any, and one leaf more
abbrev pub longer : Option Window → Node → Window
longer None n = window_of n H.Undecided
longer (Some w) n = record { first = w.first; last = n.b; holds = H.Undecided }

-- it goes on no further
abbrev pub ended : Option Window → List Window → List Window
ended None ws = ws
ended (Some w) ws = w ∷ ws

-- the windows of the leaves after it
abbrev pub joined : Option Window → List Leaf → List Window
joined run [] = ended run []
joined run (l ∷ ls) = elim l.mark [
  | M.Clear ↦ ended run (joined None ls)
  | M.One turn ↦ ended run (window_of l.node (H.Certain turn) ∷ joined None ls)
  | M.Undecided ↦ joined (Some (longer run l.node)) ls
]
