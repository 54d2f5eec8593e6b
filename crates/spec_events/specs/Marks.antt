-- What the mark of a leaf says of its node.
use Rattle.std.specs.Prelude.{List, All, ℤ}
use Rattle.spec_trees.specs.declared.tree.Leaf.{Leaf}
use Rattle.spec_trees.specs.declared.tree.Mark.{Mark}
use Rattle.spec_trees.specs.declared.tree.Mark.TheVariants as M
use Rattle.spec_trees.specs.declared.tree.Node.{Node}
use Rattle.spec_trees.specs.declared.tree.Turn.{Turn}
use Rattle.spec_trees.specs.declared.window.Holds.TheVariants as H
use Rattle.spec_trees.specs.Windows.{window_of}
use Rattle.spec_events.specs.Events.{HasNoEvent, HoldsOne}

-- a clear node has no event, a node with one has exactly one, in its direction, and U holds for an undecided node
abbrev pub IsRightMark : (Turn → ℤ → Type 0) → (Node → Type 0) → Node → Mark → Type 0
IsRightMark E U n M.Clear = HasNoEvent E n.a n.b
IsRightMark E U n (M.One turn) = HoldsOne E turn (window_of n (H.Certain turn))
IsRightMark E U n M.Undecided = U n

-- each leaf has the right mark
abbrev pub AreRightlyMarked : (Turn → ℤ → Type 0) → (Node → Type 0) → List Leaf → Type 0
AreRightlyMarked E U ls = All (λ l. IsRightMark E U l.node l.mark) ls
