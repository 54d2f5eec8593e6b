-- The tree has no more leaves below a leaf of the eager tree, or of the served tree, than that leaf weighs.
use Rattle.std.proofs.Common.{◌≡◌, ℕ, ◌^◌, ◌<◌, ◌≤◌, List, length, get_or, Bool, true, false, ◌&&◌, Option, Some, None, refl, ap, All, arith}
use Rattle.std.proofs.lemmas.Nat.{pow_pos}
use Rattle.std.specs.Prelude.{if◌then◌else◌, min}
use Rattle.spec_trees.specs.declared.tree.Leaf.{Leaf}
use Rattle.spec_trees.specs.declared.tree.Mark.{Mark}
use Rattle.spec_trees.specs.declared.tree.Node.{Node}
use Rattle.spec_trees.specs.declared.tree.Verdict.{Verdict}
use Rattle.spec_trees.specs.declared.tree.Verdict.TheVariants.{Clear, Split}
use Rattle.spec_trees.specs.Tree.{AreLeaves, IsLeaf, IsValid, leaf_count, mark_of, width}
use Rattle.spec_trees.proofs.Leaves.{leaves_settled, some_width}
use Rattle.spec_events.specs.Stages.{is_above_limits}
use Rattle.spec_searches.specs.Found.{rules}
use Rattle.spec_searches.specs.Search.{Search, IsSearch, criteria, verdict_of}
use Rattle.spec_searches.proofs.Parts.{rules_are_sound}
use Rattle.spec_stills.specs.declared.still.StillSpan.{StillSpan}
use Rattle.spec_stills.specs.Still.{IsStill, is_served}
use Rattle.spec_stills.specs.Weights.{IsWeighed, first_serving, halvings_of, weight, weight_by}
use Rattle.spec_stills.proofs.Served.{served_block}
use Rattle.spec_stills.specs.Eager.{begin_in, eager_rules}
use Rattle.spec_stills.specs.ServedTree.{served_rules}
use Rattle.spec_stills.proofs.ServedTrees.{valid_whole}
use Rattle.spec_stills.proofs.Sound.{valid_fine}

some_min : (m w : ℕ) → 0 < m → 0 < w → 0 < min m w
some_min m w more wide = omega (arith, more, wide)

some_weight : (found : Option StillSpan) (n : Node) → 0 < width n → 0 < weight_by found n
some_weight None n wide = omega arith
some_weight (Some x) n wide = some_min (2 ^ halvings_of x n) (width n) (pow_pos (halvings_of x n)) wide

-- what is neither served nor split has the mark of its verdict
judged_mark : (p q : Bool) (v : Verdict) (m : Mark) → p ≡ false → mark_of (if p then Clear else if q then Split else v) ≡ Some m → mark_of v ≡ Some m
judged_mark true q v m e marked = absurd (cc)
judged_mark false true v m e marked = absurd (cc)
judged_mark false false v m e marked = marked

module _ (s : Search) (xs : List StillSpan) (is : IsSearch s) (stills : All (IsStill s) xs) where
  by_served : (l : Leaf) → IsValid (rules s) l.node → (is_served s xs l.node ≡ false → mark_of (verdict_of s l.node) ≡ Some l.mark)
      → (b : Bool) → is_served s xs l.node ≡ b → leaf_count (rules s) l.node ≤ weight s xs l
  by_served l valid judged true served = (served_block s l.node is valid xs stills served).few
  by_served l valid judged false served =
      let one = ap (λ (ls : List Leaf). length ls) (leaves_settled (rules s) (rules_are_sound s is.view) l.node valid l.mark (judged served)) in
      let some = some_weight (first_serving s xs l.node) l.node (some_width (rules s) l.node valid) in
      omega (arith, one, some)

  weighed_by : (l : Leaf) → IsValid (rules s) l.node → (is_served s xs l.node ≡ false → mark_of (verdict_of s l.node) ≡ Some l.mark) → IsWeighed s xs l
  weighed_by l valid judged = record { valid = valid; enough = by_served l valid judged (is_served s xs l.node) refl }

  eager_weighed : (l : Leaf) → IsLeaf (eager_rules s xs) l → IsWeighed s xs l
  eager_weighed l leaf =
      weighed_by l (valid_fine s xs l.node leaf.valid)
      (λ served. judged_mark (is_served s xs l.node) (begin_in xs l.node && is_above_limits (criteria s) l.node) (verdict_of s l.node) l.mark served leaf.marked)

  served_weighed : (l : Leaf) → IsLeaf (served_rules s xs) l → IsWeighed s xs l
  served_weighed l leaf =
      weighed_by l (valid_whole s xs l.node leaf.valid) (λ served. judged_mark (is_served s xs l.node) false (verdict_of s l.node) l.mark served leaf.marked)

  pub all_eager_weighed : (ls : List Leaf) → AreLeaves (eager_rules s xs) ls → All (IsWeighed s xs) ls
  all_eager_weighed ls are = λ k d below. eager_weighed (get_or ls k d) (are k d below)

  pub all_served_weighed : (ls : List Leaf) → AreLeaves (served_rules s xs) ls → All (IsWeighed s xs) ls
  all_served_weighed ls are = λ k d below. served_weighed (get_or ls k d) (are k d below)
