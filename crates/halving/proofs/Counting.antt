-- How many leaves a node has, by its verdict.
use Rattle.std.proofs.Common.{◌≡◌, ◌+◌, ◌<◌, ℕ, List, length, Option, sym, ap, ◌∙◌, subst, Some, length-append}
use Rattle.std.specs.Prelude.{IfNone, IfSome}
use Rattle.spec_trees.specs.declared.tree.Leaf.{Leaf}
use Rattle.spec_trees.specs.declared.tree.Mark.{Mark}
use Rattle.spec_trees.specs.declared.tree.Node.{Node}
use Rattle.spec_trees.specs.declared.tree.Verdict.{Verdict}
use Rattle.spec_trees.specs.declared.tree.Verdict.TheVariants.{Split}
use Rattle.spec_trees.specs.Tree.{IsSound, IsValid, Rules, leaf_count, leaves, mark_of}
use Rattle.spec_trees.proofs.Leaves.{leaves_settled, leaves_split}

module _ (t : Rules) (sound : IsSound t) (n : Node) (valid : IsValid t n) where
  pub split_count : t.verdict n ≡ Split → leaf_count t n ≡ leaf_count t (t.parts n).0 + leaf_count t (t.parts n).1
  split_count split =
      ap (λ (ls : List Leaf). length ls) (leaves_split t sound n valid split) ∙ length-append (leaves t (t.parts n).0) (leaves t (t.parts n).1)

  module _ (v : Verdict) (m : Mark) (is : v ≡ t.verdict n) (marked : mark_of v ≡ Some m) where
    one_count : leaf_count t n ≡ 1
    one_count = ap (λ (ls : List Leaf). length ls) (leaves_settled t sound n valid m (ap mark_of (sym is) ∙ marked))

    pub is_counted : (found : Option ℕ) → IfSome found (λ count. count ≡ 1) → IfSome found (λ count. count ≡ leaf_count t n)
    is_counted found one = subst (λ (k : ℕ). IfSome found (λ count. count ≡ k)) (sym one_count) one

    pub is_too_much : (found : Option ℕ) (limit : ℕ) → IfNone found (limit < 1) → IfNone found (limit < leaf_count t n)
    is_too_much found limit none = subst (λ (k : ℕ). IfNone found (limit < k)) (sym one_count) none
