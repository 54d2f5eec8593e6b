-- The tree of a root, and its leaves from left to right.
use Rattle.std.specs.Prelude.{◌≡◌, ℕ, zero, suc, ◌^◌, ◌≤◌, ℤ, pos, neg_ℤ, ◌-ℤ◌, ◌<ℤ◌, ◌≤ℤ◌, List, [], ◌∷◌, ◌++◌, length, All, Option, Some, None}
use Rattle.std.specs.Int.RustNames.{unsigned_abs}
use Rattle.spec_trees.specs.declared.tree.Node.{Node}
use Rattle.spec_trees.specs.declared.tree.Leaf.{Leaf}
use Rattle.spec_trees.specs.declared.tree.Mark.{Mark}
use Rattle.spec_trees.specs.declared.tree.Mark.TheVariants as M
use Rattle.spec_trees.specs.declared.tree.Verdict.{Verdict}
use Rattle.spec_trees.specs.declared.tree.Verdict.TheVariants as V

-- which nodes are valid, what is said of each, and the two parts of a node that is split
pub record Rules : Type 0 where
  pub first : ℤ
  pub last : ℤ
  pub deepest : ℕ
  pub verdict : Node → Verdict
  pub parts : Node → Node × Node

pub record IsValid (t : Rules) (n : Node) : Type 0 where
  pub from : t.first ≤ℤ n.a
  pub inside : n.a <ℤ n.b
  pub to : n.b ≤ℤ t.last
  pub depth : n.depth ≤ t.deepest

-- the two nodes meet in one time inside n, and cover it
pub record Cuts (n left right : Node) : Type 0 where
  pub from : left.a ≡ n.a
  pub meet : left.b ≡ right.a
  pub to : right.b ≡ n.b

pub record IsCut (t : Rules) (n : Node) : Type 0 where
  pub cuts : Cuts n (t.parts n).0 (t.parts n).1
  pub left : IsValid t (t.parts n).0
  pub right : IsValid t (t.parts n).1

-- the times lie within 2^50, and the parts of a valid node that is split are valid and cut it
pub record IsSound (t : Rules) : Type 0 where
  pub low : neg_ℤ (pos (2 ^ 50)) ≤ℤ t.first
  pub high : t.last ≤ℤ pos (2 ^ 50)
  pub cut : (n : Node) → IsValid t n → t.verdict n ≡ V.Split → IsCut t n

-- the number of its times
abbrev pub width : Node → ℕ
width n = unsigned_abs (n.b -ℤ n.a)

-- the mark of a leaf with this verdict; a node that is to be split is no leaf
abbrev pub mark_of : Verdict → Option Mark
mark_of V.Clear = Some M.Clear
mark_of (V.One turn) = Some (M.One turn)
mark_of V.Split = None
mark_of V.Undecided = Some M.Undecided

abbrev pub leaf_of : Node → Mark → Leaf
leaf_of n m = record { node = n; mark = m }

-- the leaves, where no node is wider than k
unfoldable pub leaves_within : Rules → ℕ → Node → List Leaf
leaves_within t zero n = []
leaves_within t (suc k) n = elim (mark_of (t.verdict n)) [
  | Some m ↦ leaf_of n m ∷ []
  | None ↦ leaves_within t k (t.parts n).0 ++ leaves_within t k (t.parts n).1
]

-- the node itself where it is not split, and else the leaves of its left part and then those of its right part
unfoldable pub leaves : Rules → Node → List Leaf
leaves t n = leaves_within t (width n) n

-- how many leaves it has
abbrev pub leaf_count : Rules → Node → ℕ
leaf_count t n = length (leaves t n)

-- the leaves follow one another from a to b, without gap or overlap
abbrev pub Covers : ℤ → List Leaf → ℤ → Type 0
Covers a [] b = a ≡ b
Covers a (l ∷ ls) b = (l.node.a ≡ a) × (l.node.a <ℤ l.node.b) × Covers l.node.b ls b

-- the leaf stands for some time
abbrev pub HasTime : Leaf → Type 0
HasTime l = l.node.a <ℤ l.node.b

-- a valid node that is not split, with the mark of its verdict
pub record IsLeaf (t : Rules) (l : Leaf) : Type 0 where
  pub valid : IsValid t l.node
  pub marked : mark_of (t.verdict l.node) ≡ Some l.mark

abbrev pub AreLeaves : Rules → List Leaf → Type 0
AreLeaves t ls = All (IsLeaf t) ls
