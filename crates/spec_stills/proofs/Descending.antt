-- Whether a node lies in a clear leaf of the tree, by a walk down to the leaf that it lies in.
use Rattle.std.proofs.Common.{◌≡◌, ◌<◌, Bool, true, false, ◌&&◌, ◌||◌, ◌<ℤ◌, ◌≤ℤ◌, ℤ, int_lt, Some, refl, ap, ◌∙◌, arith}
use Rattle.std.specs.Prelude.{if◌then◌else◌}
use Rattle.std.specs.List.{list_any}
use Rattle.std.proofs.lemmas.Int.{ints}
use Rattle.spec_trees.specs.declared.tree.Node.{Node}
use Rattle.spec_trees.specs.declared.tree.Mark.{Mark}
use Rattle.spec_trees.specs.declared.tree.Mark.TheVariants as M
use Rattle.spec_trees.specs.declared.tree.Verdict.TheVariants as V
use Rattle.spec_trees.specs.Tree.{IsValid, leaves, mark_of, width}
use Rattle.spec_trees.proofs.Covering.{leaves_cover}
use Rattle.spec_trees.proofs.Leaves.{leaves_settled, leaves_split, parts_width, some_width}
use Rattle.spec_searches.specs.Found.{rules}
use Rattle.spec_searches.specs.Search.{Search, IsSearch, parts, verdict_of}
use Rattle.spec_searches.proofs.Parts.{rules_are_sound}
use Rattle.spec_stills.specs.Settled.{clears, holds, is_clear_mark, is_cleared, part_with}
use Rattle.spec_stills.proofs.Cleared.{cleared_left, cleared_right}

one_test : (p : Bool) → ((true && p) || false) ≡ p
one_test true = refl
one_test false = refl

no_test : (c p : Bool) → c ≡ false → ((c && p) || false) ≡ false
no_test c p e = rw e refl

not_before : (t u : ℤ) → int_lt t u ≡ false → u ≤ℤ t
not_before t u e = grind (arith, ints)

before : (t u : ℤ) → int_lt t u ≡ true → t <ℤ u
before t u e = grind (arith, ints)

module _ (s : Search) (is : IsSearch s) (at n : Node) (valid : IsValid (rules s) at) where
  -- a clear one
  pub at_clear : verdict_of s at ≡ V.Clear → is_cleared s at n ≡ holds at n
  at_clear e =
      ap (list_any (clears n)) (leaves_settled (rules s) (rules_are_sound s is.view) at valid M.Clear (ap mark_of e))
      ∙ one_test (holds at n)

  -- another that is not split
  pub at_other : (m : Mark) → is_clear_mark m ≡ false → mark_of (verdict_of s at) ≡ Some m → is_cleared s at n ≡ false
  at_other m other e =
      ap (list_any (clears n)) (leaves_settled (rules s) (rules_are_sound s is.view) at valid m e)
      ∙ no_test (is_clear_mark m) (holds at n) other

  -- and one that is
  module _ (inside : n.a <ℤ n.b) (split : verdict_of s at ≡ V.Split) where
    by : (b : Bool) → int_lt n.a (parts s at).0.b ≡ b → is_cleared s at n ≡ is_cleared s (if b then (parts s at).0 else (parts s at).1) n
    by true e =
        let sound = rules_are_sound s is.view in
        let cut = sound.cut at valid split in
        let left = (parts s at).0 in
        let right = (parts s at).1 in
        let meet = cut.cuts.meet in
        let earlier = before n.a left.b e in
        ap (list_any (clears n)) (leaves_split (rules s) sound at valid split)
        ∙ cleared_left n inside (leaves (rules s) left) (leaves (rules s) right) right.a right.b (leaves_cover (rules s) sound right cut.right) (omega (arith, ints, earlier, meet))
    by false e =
        let sound = rules_are_sound s is.view in
        let cut = sound.cut at valid split in
        let left = (parts s at).0 in
        let right = (parts s at).1 in
        ap (list_any (clears n)) (leaves_split (rules s) sound at valid split)
        ∙ cleared_right n inside (leaves (rules s) left) (leaves (rules s) right) left.a left.b (leaves_cover (rules s) sound left cut.left) (not_before n.a left.b e)

    pub at_split : is_cleared s at n ≡ is_cleared s (part_with (parts s at) n) n
    at_split = by (int_lt n.a (parts s at).0.b) refl

    part_valid : (b : Bool) → IsValid (rules s) (if b then (parts s at).0 else (parts s at).1)
    part_valid true = ((rules_are_sound s is.view).cut at valid split).left
    part_valid false = ((rules_are_sound s is.view).cut at valid split).right

    pub part_is_valid : IsValid (rules s) (part_with (parts s at) n)
    part_is_valid = part_valid (int_lt n.a (parts s at).0.b)

    part_narrower : (b : Bool) → width (if b then (parts s at).0 else (parts s at).1) < width at
    part_narrower true =
        let cut = (rules_are_sound s is.view).cut at valid split in
        let w = parts_width (rules s) at cut in
        let r = some_width (rules s) (parts s at).1 cut.right in
        omega (arith, w, r)
    part_narrower false =
        let cut = (rules_are_sound s is.view).cut at valid split in
        let w = parts_width (rules s) at cut in
        let l = some_width (rules s) (parts s at).0 cut.left in
        omega (arith, w, l)

    pub part_is_narrower : width (part_with (parts s at) n) < width at
    part_is_narrower = part_narrower (int_lt n.a (parts s at).0.b)
