-- What holds at each valid node, shown along the eager tree: where a span serves the node, where it is clear, where both trees
-- judge it as a leaf, and of its parts where it is split.
use Rattle.std.proofs.Common.{◌≡◌, ℕ, zero, suc, ◌≤◌, ◌⊎◌, inl, inr, List, Bool, true, false, ◌&&◌, Option, Some, None, refl, ◌∙◌, arith}
use Rattle.std.proofs.lemmas.Bool.{and_parts}
use Rattle.spec_trees.specs.declared.tree.Mark.{Mark}
use Rattle.spec_trees.specs.declared.tree.Node.{Node}
use Rattle.spec_trees.specs.declared.tree.Verdict.TheVariants.{Clear, Split}
use Rattle.spec_trees.specs.Tree.{IsValid, mark_of, width}
use Rattle.spec_trees.proofs.Leaves.{no_mark, parts_width, some_width}
use Rattle.spec_events.specs.Stages.{is_above_limits}
use Rattle.spec_searches.specs.Found.{rules}
use Rattle.spec_searches.specs.Search.{Search, IsSearch, criteria, parts, verdict_of}
use Rattle.spec_searches.proofs.Parts.{rules_are_sound}
use Rattle.spec_stills.specs.declared.still.StillSpan.{StillSpan}
use Rattle.spec_stills.specs.Still.{is_served}
use Rattle.spec_stills.specs.Eager.{begin_in, eager_verdict}
use Rattle.spec_stills.proofs.Sound.{judged_verdict, unjudged_verdict, verdict_above}

module _ (s : Search) (xs : List StillSpan) (is : IsSearch s) (Holds : Node → Type 0)
    (served : (n : Node) → IsValid (rules s) n → is_served s xs n ≡ true → Holds n)
    (clear : (n : Node) → IsValid (rules s) n → verdict_of s n ≡ Clear → Holds n)
    (settled : (n : Node) (m : Mark) → IsValid (rules s) n → eager_verdict s xs n ≡ verdict_of s n → mark_of (verdict_of s n) ≡ Some m → Holds n)
    (split : (n : Node) → IsValid (rules s) n → eager_verdict s xs n ≡ Split → verdict_of s n ≡ Split
    → Holds (parts s n).0 → Holds (parts s n).1 → Holds n) where
  abbrev Below : ℕ → Type 0
  Below k = (i : Node) → IsValid (rules s) i → width i ≤ k → Holds i

  by_parts : (k : ℕ) (n : Node) → IsValid (rules s) n → width n ≤ suc k → eager_verdict s xs n ≡ Split → verdict_of s n ≡ Split → Below k → Holds n
  by_parts k n valid narrow eager fine below =
      let cut = (rules_are_sound s is.view).cut n valid fine in
      let w = parts_width (rules s) n cut in
      let l = some_width (rules s) (parts s n).0 cut.left in
      let r = some_width (rules s) (parts s n).1 cut.right in
      split n valid eager fine
      (below (parts s n).0 cut.left (omega (arith, narrow, w, l, r)))
      (below (parts s n).1 cut.right (omega (arith, narrow, w, l, r)))

  by_mark : (k : ℕ) (n : Node) → IsValid (rules s) n → width n ≤ suc k → eager_verdict s xs n ≡ verdict_of s n
      → (m : Option Mark) → mark_of (verdict_of s n) ≡ m → Below k → Holds n
  by_mark k n valid narrow same (Some m) marked below = settled n m valid same marked
  by_mark k n valid narrow same None marked below = let fine = no_mark (verdict_of s n) marked in by_parts k n valid narrow (same ∙ fine) fine below

  by_either : (k : ℕ) (n : Node) → IsValid (rules s) n → width n ≤ suc k → eager_verdict s xs n ≡ Split
      → (verdict_of s n ≡ Clear) ⊎ (verdict_of s n ≡ Split) → Below k → Holds n
  by_either k n valid narrow eager (inl is_clear) below = clear n valid is_clear
  by_either k n valid narrow eager (inr fine) below = by_parts k n valid narrow eager fine below

  by_begins : (k : ℕ) (n : Node) → IsValid (rules s) n → width n ≤ suc k → is_served s xs n ≡ false
      → (b : Bool) → (begin_in xs n && is_above_limits (criteria s) n) ≡ b → Below k → Holds n
  by_begins k n valid narrow unserved true begins below =
      let above = (and_parts (begin_in xs n) (is_above_limits (criteria s) n) begins).1 in
      by_either k n valid narrow (unjudged_verdict s xs n unserved begins) (verdict_above s n is valid above) below
  by_begins k n valid narrow unserved false begins below =
      by_mark k n valid narrow (judged_verdict s xs n unserved begins) (mark_of (verdict_of s n)) refl below

  by_served : (k : ℕ) (n : Node) → IsValid (rules s) n → width n ≤ suc k → (b : Bool) → is_served s xs n ≡ b → Below k → Holds n
  by_served k n valid narrow true is_so below = served n valid is_so
  by_served k n valid narrow false is_so below = by_begins k n valid narrow is_so (begin_in xs n && is_above_limits (criteria s) n) refl below

  by_width : (k : ℕ) (n : Node) → IsValid (rules s) n → width n ≤ k → Holds n
  by_width zero n valid narrow = absurd (omega (arith, narrow, some_width (rules s) n valid))
  by_width (suc k) n valid narrow = by_served k n valid narrow (is_served s xs n) refl (by_width k)

  pub along_eager_tree : (n : Node) → IsValid (rules s) n → Holds n
  along_eager_tree n valid = by_width (width n) n valid (omega arith)
