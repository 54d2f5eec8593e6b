-- Nodes that wait on a stack, the next one last.
use Rattle.std.specs.Prelude.{ℕ, ◌+◌, ◌*◌, ◌-◌, List, [], ◌∷◌, ◌++◌}
use Rattle.spec_trees.specs.declared.tree.Node.{Node}
use Rattle.spec_trees.specs.declared.tree.Leaf.{Leaf}
use Rattle.spec_trees.specs.Tree.{Rules, IsValid, width, leaves}

-- the leaves of all nodes that wait, from left to right
abbrev pub pending : Rules → List Node → List Leaf
pending t [] = []
pending t (n ∷ ns) = pending t ns ++ leaves t n

abbrev pub AllValid : Rules → List Node → Type 0
AllValid t [] = Unit {0}
AllValid t (n ∷ ns) = IsValid t n × AllValid t ns

-- it falls where a node is taken off, and where its two parts are put back for it
abbrev pub weight : List Node → ℕ
weight [] = 0
weight (n ∷ ns) = (2 * width n - 1) + weight ns
