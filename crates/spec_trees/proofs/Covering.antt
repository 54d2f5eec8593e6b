-- The leaves of a node cover it, and each is a valid node with the mark of its verdict.
use Rattle.std.proofs.Common.{◌≡◌, ℕ, zero, suc, ◌≤◌, ℤ, List, [], ◌∷◌, ◌++◌, All, refl, sym, subst, Option, Some, None, arith}
use Rattle.spec_trees.specs.declared.tree.Node.{Node}
use Rattle.spec_trees.specs.declared.tree.Leaf.{Leaf}
use Rattle.spec_trees.specs.declared.tree.Mark.{Mark}
use Rattle.std.proofs.lemmas.List.Elements.{All-nil, All-cons, All-append}
use Rattle.spec_trees.specs.Tree.{Cuts, Rules, IsValid, IsSound, IsLeaf, AreLeaves, Covers, HasTime, mark_of, width, leaf_of, leaves}
use Rattle.spec_trees.proofs.Leaves.{some_width, parts_width, no_mark, leaves_settled, leaves_split}

pub covers_append : (xs ys : List Leaf) (a b c : ℤ) → Covers a xs b → Covers b ys c → Covers a (xs ++ ys) c
covers_append [] ys a b c p q = subst (λ (z : ℤ). Covers z ys c) (sym p) q
covers_append (x ∷ xs) ys a b c p q = (p.0, p.1, covers_append xs ys x.node.b b c p.2 q)

pub all_have_time : (a b : ℤ) (ls : List Leaf) → Covers a ls b → All HasTime ls
all_have_time a b [] c = All-nil HasTime
all_have_time a b (l ∷ ls) c = All-cons HasTime l ls c.1 (all_have_time l.node.b b ls c.2)

-- ---- what holds of the one leaf of a node that is not split, and of the leaves of two parts together, holds of all leaves
module _ (t : Rules) (s : IsSound t) (P : Node → List Leaf → Type 0)
    (of_leaf : (n : Node) (m : Mark) → IsValid t n → mark_of (t.verdict n) ≡ Some m → P n (leaf_of n m ∷ []))
    (of_parts : (n left right : Node) (ls ms : List Leaf) → Cuts n left right → P left ls → P right ms → P n (ls ++ ms)) where
  by_mark : (k : ℕ) (n : Node) → IsValid t n → width n ≤ suc k → (m : Option Mark) → mark_of (t.verdict n) ≡ m
      → ((i : Node) → IsValid t i → width i ≤ k → P i (leaves t i)) → P n (leaves t n)
  by_mark k n v w (Some m) e below = subst (P n) (sym (leaves_settled t s n v m e)) (of_leaf n m v e)
  by_mark k n v w None e below =
      let split = no_mark (t.verdict n) e in
      let c = s.cut n v split in
      let left = (t.parts n).0 in
      let right = (t.parts n).1 in
      let sum = parts_width t n c in
      let l = some_width t left c.left in
      let r = some_width t right c.right in
      subst (P n) (sym (leaves_split t s n v split))
      (of_parts n left right (leaves t left) (leaves t right) c.cuts (below left c.left (omega arith)) (below right c.right (omega arith)))

  by_width : (k : ℕ) (n : Node) → IsValid t n → width n ≤ k → P n (leaves t n)
  by_width zero n v w = absurd (omega (arith, some_width t n v))
  by_width (suc k) n v w = by_mark k n v w (mark_of (t.verdict n)) refl (by_width k)

  pub of_leaves : (n : Node) → IsValid t n → P n (leaves t n)
  of_leaves n v = by_width (width n) n v (omega arith)

pub leaves_cover : (t : Rules) → IsSound t → (n : Node) → IsValid t n → Covers n.a (leaves t n) n.b
leaves_cover t s = of_leaves t s (λ n ls. Covers n.a ls n.b) (λ n m v e. (refl, v.inside, refl)) joined
  where
    joined : (n left right : Node) (ls ms : List Leaf) → Cuts n left right → Covers left.a ls left.b → Covers right.a ms right.b → Covers n.a (ls ++ ms) n.b
    joined n left right ls ms cuts p q =
        covers_append ls ms n.a left.b n.b (subst (λ (z : ℤ). Covers z ls left.b) cuts.from p)
        (subst (λ (z : ℤ). Covers left.b ms z) cuts.to (subst (λ (z : ℤ). Covers z ms right.b) (sym cuts.meet) q))

-- and each of them is a valid node with the mark of its verdict
pub leaves_are : (t : Rules) → IsSound t → (n : Node) → IsValid t n → AreLeaves t (leaves t n)
leaves_are t s =
    of_leaves t s (λ n ls. AreLeaves t ls)
    (λ n m v e. All-cons (IsLeaf t) (leaf_of n m) [] (record { valid = v; marked = e }) (All-nil (IsLeaf t)))
    (λ n left right ls ms cuts p q. All-append (IsLeaf t) ls ms p q)
