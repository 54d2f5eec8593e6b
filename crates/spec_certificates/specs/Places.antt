-- Where the leaves of a certificate stand. From left to right some nodes wait; the first of them is cut, and its left
-- part again, until it is the node of the next leaf. A node may be cut whatever is said of it.
use Rattle.std.specs.Prelude.{◌≡◌, ℕ, zero, suc, Bool, true, false, ◌&&◌, ◌==◌, List, ◌∷◌, Option, None, Some}
use Rattle.std.specs.Ordering.{int_eq}
use Rattle.spec_trees.specs.declared.tree.Node.{Node}
use Rattle.spec_trees.specs.declared.tree.Verdict.TheVariants.{Split}
use Rattle.spec_trees.specs.Tree.{Rules, IsCut, IsSound, IsValid, width}

-- the rules of a tree, and which nodes may be cut
pub record Cutting : Type 0 where
  pub rules : Rules
  pub may : Node → Bool

-- the rules are sound, what is split may be cut, and the parts of a valid node that may be cut are valid and cut it
pub record IsCutting (c : Cutting) : Type 0 where
  pub sound : IsSound c.rules
  pub split : (n : Node) → c.rules.verdict n ≡ Split → c.may n ≡ true
  pub cut : (n : Node) → IsValid c.rules n → c.may n ≡ true → IsCut c.rules n

-- the same times at the same depth
abbrev pub is_same : Node → Node → Bool
is_same n m = int_eq n.a m.a && (int_eq n.b m.b && (n.depth == m.depth))

-- the nodes that wait once the leaf of a node is placed: the first that waits is cut, and its right part put in front
-- of the others, until it is that node; none where it never is. The first node is no wider than k
unfoldable pub waiting_within : Cutting → ℕ → Node → List Node → Node → Option (List Node)
waiting_within c zero here rest node = elim (is_same here node) [ true ↦ Some rest | false ↦ None ]
waiting_within c (suc k) here rest node = elim (is_same here node) [
  | true ↦ Some rest
  | false ↦ elim (c.may here) [
    | true ↦ waiting_within c k (c.rules.parts here).0 ((c.rules.parts here).1 ∷ rest) node
    | false ↦ None
  ]
]

-- the same, within the width of the first node, which is enough
unfoldable pub waiting_after : Cutting → Node → List Node → Node → Option (List Node)
waiting_after c here rest node = waiting_within c (width here) here rest node
