-- Nodes on the way down the tree of a search, each within the one above it.
use Rattle.std.proofs.Common.{◌≡◌, Bool, true, false, ◌<ℤ◌, ◌≤ℤ◌, ℤ, int_le, int_lt, refl, ap, ◌∙◌, arith}
use Rattle.std.specs.Prelude.{if◌then◌else◌}
use Rattle.std.proofs.lemmas.Int.{ints}
use Rattle.std.proofs.lemmas.Bool.{and_parts}
use Rattle.spec_trees.specs.declared.tree.Node.{Node}
use Rattle.spec_trees.specs.declared.tree.Verdict.TheVariants as V
use Rattle.spec_trees.specs.Tree.{IsCut, IsValid}
use Rattle.spec_searches.specs.Found.{rules}
use Rattle.spec_searches.specs.Search.{Search, IsSearch, parts, verdict_of}
use Rattle.spec_searches.proofs.Parts.{rules_are_sound}
use Rattle.spec_stills.specs.Settled.{is_cleared, part_with}
use Rattle.spec_stills.proofs.Descending.{at_split}
use Rattle.still_judge.specs.Below.{IsBelow, holds_begin}
use Rattle.still_judge.proofs.Cleared.{no_later}

before : (t u : ℤ) → t <ℤ u → int_lt t u ≡ true
before t u e = grind (arith, ints)

not_before : (t u : ℤ) → u ≤ℤ t → int_lt t u ≡ false
not_before t u e = grind (arith, ints)

earlier : (t u : ℤ) → int_lt t u ≡ true → t <ℤ u
earlier t u e = grind (arith, ints)

pub itself : (s : Search) (at : Node) → IsBelow s at at
itself s at = record {
  from = omega (arith, ints);
  upto = omega (arith, ints);
  same = λ n inside from before. refl;
}

pub further : (s : Search) (at m low : Node) → IsBelow s at m → IsBelow s m low → IsBelow s at low
further s at m low above below = record {
  from = let a = above.from in let b = below.from in omega (arith, ints, a, b);
  upto = let a = above.upto in let b = below.upto in omega (arith, ints, a, b);
  same = λ n inside from before.
      let f = below.from in
      let u = below.upto in
      above.same n inside (omega (arith, ints, f, from)) (omega (arith, ints, u, before)) ∙ below.same n inside from before;
}

-- one that begins in another is told by it
pub told : (s : Search) (at low n : Node) → IsBelow s at low → n.a <ℤ n.b → holds_begin low n ≡ true → is_cleared s at n ≡ is_cleared s low n
told s at low n below inside begins =
    let both = and_parts (int_le low.a n.a) (int_lt n.a low.b) begins in
    below.same n inside (no_later low.a n.a both.0) (earlier n.a low.b both.1)

module _ (s : Search) (is : IsSearch s) (at n : Node) (valid : IsValid (rules s) at) (split : verdict_of s at ≡ V.Split) where
  cut : IsCut (rules s) at
  cut = (rules_are_sound s is.view).cut at valid split

  -- a node in one part is cleared by it
  cleared_by : (b : Bool) (m : Node) → m.a <ℤ m.b → int_lt m.a (parts s at).0.b ≡ b → is_cleared s at m ≡ is_cleared s (if b then (parts s at).0 else (parts s at).1) m
  cleared_by b m inside e = at_split s is at m valid inside split ∙ ap (λ (b : Bool). is_cleared s (if b then (parts s at).0 else (parts s at).1) m) e

  by : (b : Bool) → IsBelow s at (if b then (parts s at).0 else (parts s at).1)
  by true = record {
    from = let from = cut.cuts.from in omega (arith, ints, from);
    upto = let meet = cut.cuts.meet in let to = cut.cuts.to in let right = cut.right.inside in omega (arith, ints, meet, to, right);
    same = λ m inside from upto. cleared_by true m inside (before m.a (parts s at).0.b upto);
  }
  by false = record {
    from = let first = cut.cuts.from in let meet = cut.cuts.meet in let left = cut.left.inside in omega (arith, ints, first, meet, left);
    upto = let to = cut.cuts.to in omega (arith, ints, to);
    same = λ m inside from upto. let meet = cut.cuts.meet in cleared_by false m inside (not_before m.a (parts s at).0.b (omega (arith, ints, meet, from)));
  }

  pub part_below : IsBelow s at (part_with (parts s at) n)
  part_below = by (int_lt n.a (parts s at).0.b)
