-- How many leaves the tree of a search has, by those below the leaves of its eager tree.
use Rattle.std.proofs.Common.{◌≡◌, ◌<◌, ◌≤◌, List, [], ◌∷◌, length, Some, sym, ap, ◌∙◌, subst, length-append, arith}
use Rattle.std.proofs.lemmas.List.Elements.{All-head}
use Rattle.std.proofs.lemmas.List.Sums.{sum_by-append, sum_by-cons}
use Rattle.spec_trees.specs.declared.tree.Leaf.{Leaf}
use Rattle.spec_trees.specs.declared.tree.Mark.{Mark}
use Rattle.spec_trees.specs.declared.tree.Mark.TheVariants as M
use Rattle.spec_trees.specs.declared.tree.Node.{Node}
use Rattle.spec_trees.specs.declared.tree.Verdict.TheVariants.{Clear, Split}
use Rattle.spec_trees.specs.Tree.{AreLeaves, IsLeaf, IsValid, leaf_count, leaf_of, leaves, mark_of}
use Rattle.spec_trees.proofs.Covering.{leaves_are, leaves_cover}
use Rattle.spec_trees.proofs.Leaves.{leaves_settled, leaves_split}
use Rattle.spec_searches.specs.Found.{rules}
use Rattle.spec_searches.specs.Search.{Search, IsSearch, parts, verdict_of}
use Rattle.spec_searches.proofs.Parts.{rules_are_sound}
use Rattle.spec_stills.specs.declared.still.StillSpan.{StillSpan}
use Rattle.spec_stills.specs.Eager.{eager_rules, eager_verdict}
use Rattle.spec_stills.proofs.EagerInduction.{along_eager_tree}
use Rattle.spec_stills.proofs.Sound.{eager_sound, served_verdict, valid_eager, valid_fine}
use Rattle.spec_stills.specs.Settled.{leaves_below}
use Rattle.spec_stills.proofs.Cleared.{some_leaves}

module _ (s : Search) (xs : List StillSpan) (is : IsSearch s) where
  -- the leaves of both trees at a node
  abbrev IsEnough : Node → Type 0
  IsEnough n = leaf_count (rules s) n ≤ leaves_below s (leaves (eager_rules s xs) n)

  one_leaf : (n : Node) (m : Mark) → IsValid (rules s) n → mark_of (eager_verdict s xs n) ≡ Some m → IsEnough n
  one_leaf n m valid marked =
      let sum = sum_by-cons (λ (l : Leaf). leaf_count (rules s) l.node) (leaf_of n m) [] in
      subst (λ (ls : List Leaf). leaf_count (rules s) n ≤ leaves_below s ls)
      (sym (leaves_settled (eager_rules s xs) (eager_sound s xs is) n (valid_eager s xs n valid) m marked))
      (omega (arith, sum))

  -- one that is clear, however it is cut
  some_below : (ls : List Leaf) → 0 < length ls → AreLeaves (eager_rules s xs) ls → 0 < leaves_below s ls
  some_below [] some are = absurd (omega (arith, some))
  some_below (l ∷ ls) some are =
      let leaf = All-head (IsLeaf (eager_rules s xs)) l ls are in
      let valid = valid_fine s xs l.node leaf.valid in
      let first = some_leaves (leaves (rules s) l.node) l.node valid.inside (leaves_cover (rules s) (rules_are_sound s is.view) l.node valid) in
      let sum = sum_by-cons (λ (m : Leaf). leaf_count (rules s) m.node) l ls in
      omega (arith, first, sum)

  clear_enough : (n : Node) → IsValid (rules s) n → verdict_of s n ≡ Clear → IsEnough n
  clear_enough n valid clear =
      let sound = eager_sound s xs is in
      let eager = valid_eager s xs n valid in
      let some = some_leaves (leaves (eager_rules s xs) n) n valid.inside (leaves_cover (eager_rules s xs) sound n eager) in
      let below = some_below (leaves (eager_rules s xs) n) some (leaves_are (eager_rules s xs) sound n eager) in
      let one = ap (λ (ls : List Leaf). length ls) (leaves_settled (rules s) (rules_are_sound s is.view) n valid M.Clear (ap mark_of clear)) in
      omega (arith, below, one)

  split_enough : (n : Node) → IsValid (rules s) n → eager_verdict s xs n ≡ Split → verdict_of s n ≡ Split
      → IsEnough (parts s n).0 → IsEnough (parts s n).1 → IsEnough n
  split_enough n valid eager split left right =
      let fine = ap (λ (ls : List Leaf). length ls) (leaves_split (rules s) (rules_are_sound s is.view) n valid split) in
      let both = length-append (leaves (rules s) (parts s n).0) (leaves (rules s) (parts s n).1) in
      let sum = sum_by-append (λ (m : Leaf). leaf_count (rules s) m.node) (leaves (eager_rules s xs) (parts s n).0) (leaves (eager_rules s xs) (parts s n).1) in
      subst (λ (ls : List Leaf). leaf_count (rules s) n ≤ leaves_below s ls)
      (sym (leaves_split (eager_rules s xs) (eager_sound s xs is) n (valid_eager s xs n valid) eager))
      (omega (arith, left, right, fine, both, sum))

  pub enough_below : (n : Node) → IsValid (rules s) n → leaf_count (rules s) n ≤ leaves_below s (leaves (eager_rules s xs) n)
  enough_below n valid =
      along_eager_tree s xs is IsEnough
      (λ i fits served. one_leaf i M.Clear fits (ap mark_of (served_verdict s xs i served)))
      clear_enough
      (λ i m fits same marked. one_leaf i m fits (ap mark_of same ∙ marked))
      split_enough n valid
