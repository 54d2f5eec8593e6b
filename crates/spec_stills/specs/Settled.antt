-- The leaves of an eager tree, settled by the tree of the search: one that is undecided there, and that lies in a clear leaf of
-- the tree, is clear.
use Rattle.std.specs.Prelude.{ℕ, Bool, true, false, ◌&&◌, List, map, sum_by, if◌then◌else◌, int_le, int_lt}
use Rattle.std.specs.List.{list_any}
use Rattle.spec_trees.specs.declared.tree.Leaf.{Leaf}
use Rattle.spec_trees.specs.declared.tree.Mark.{Mark}
use Rattle.spec_trees.specs.declared.tree.Mark.TheVariants as M
use Rattle.spec_trees.specs.declared.tree.Node.{Node}
use Rattle.spec_trees.specs.Tree.{leaf_count, leaf_of, leaves}
use Rattle.spec_trees.specs.Windows.{is_undecided}
use Rattle.spec_searches.specs.Found.{rules}
use Rattle.spec_searches.specs.Search.{Search}
use Rattle.spec_stills.specs.declared.still.StillSpan.{StillSpan}
use Rattle.spec_stills.specs.Eager.{eager_rules}

abbrev pub is_clear_mark : Mark → Bool
is_clear_mark M.Clear = true
is_clear_mark (M.One turn) = false
is_clear_mark M.Undecided = false

-- the second node lies in the first
abbrev pub holds : Node → Node → Bool
holds m n = int_le m.a n.a && int_le n.b m.b

-- the leaf is clear, and the node lies in it
abbrev pub clears : Node → Leaf → Bool
clears n l = is_clear_mark l.mark && holds l.node n

-- the node lies in a clear leaf of the tree of a root
abbrev pub is_cleared : Search → Node → Node → Bool
is_cleared s root n = list_any (clears n) (leaves (rules s) root)

-- the part of a node in which another begins
abbrev pub part_with : Node × Node → Node → Node
part_with both n = if int_lt n.a both.0.b then both.0 else both.1

-- an undecided leaf is clear if it does
abbrev pub settled_by : Bool → Leaf → Leaf
settled_by cleared l = if is_undecided l.mark && cleared then leaf_of l.node M.Clear else l

abbrev pub settled : Search → Node → Leaf → Leaf
settled s root l = settled_by (is_cleared s root l.node) l

-- the leaves of the eager tree of a root, settled
abbrev pub settled_leaves : Search → List StillSpan → Node → List Leaf
settled_leaves s xs root = map (settled s root) (leaves (eager_rules s xs) root)

-- ---- how many leaves the tree has below each of some leaves, together
abbrev pub leaves_below : Search → List Leaf → ℕ
leaves_below s ls = sum_by (λ l. leaf_count (rules s) l.node) ls
