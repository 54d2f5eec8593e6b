-- The rules of a judge that looks for one crossing, for worked values and tests: a span that holds second 1339200 is
-- halved until it is no wider than 50 seconds.
use Rattle.std.proofs.Common.{◌≡◌, ◌<◌, Bool, ◌&&◌, nat_lt, ◌^◌, ℤ, pos, neg_ℤ, ◌-ℤ◌, ◌<ℤ◌, ◌≤ℤ◌, int_lt, int_le, if◌then◌else◌, refl, arith}
use Rattle.std.proofs.lemmas.Int.{ints}
use Rattle.spec_trees.specs.declared.cuts.CutRule.TheVariants.{Half}
use Rattle.spec_trees.specs.declared.tree.Node.{Node}
use Rattle.spec_trees.specs.declared.tree.Turn.TheVariants.{Rise}
use Rattle.spec_trees.specs.declared.tree.Verdict.TheVariants.{Clear, One, Split}
use Rattle.spec_trees.specs.Cuts.{CanCut, cut_of}
use Rattle.spec_trees.specs.CutExamples.{parts_at}
use Rattle.spec_trees.specs.Tree.{Rules, IsCut, IsSound, IsValid}
use Rattle.spec_trees.proofs.Cutting.{cut_inside}

abbrev pub holds_crossing : Node → Bool
holds_crossing n = int_lt n.a (pos 1339200) && int_le (pos 1339200) n.b

abbrev pub is_searched : Node → Bool
is_searched n = int_lt (pos 50) (n.b -ℤ n.a) && nat_lt n.depth 100

-- such spans from first to last
abbrev pub crossing_in : ℤ → ℤ → Rules
crossing_in first last = record {
  first = first;
  last = last;
  deepest = 100;
  verdict = λ n. if holds_crossing n then (if is_searched n then Split else One Rise) else Clear;
  parts = λ n. parts_at (cut_of Half n.a n.b) n;
}

abbrev pub crossing : Rules
crossing = crossing_in (pos 1339000) (pos 1339400)

-- four hundred seconds
abbrev pub four_hundred : Node
four_hundred = record { a = pos 1339000; b = pos 1339400; depth = 0 }

module _ (first last : ℤ) (low : neg_ℤ (pos (2 ^ 50)) ≤ℤ first) (high : last ≤ℤ pos (2 ^ 50)) where
  wide : (n : Node) → (crossing_in first last).verdict n ≡ Split → (pos 50 <ℤ (n.b -ℤ n.a)) × (n.depth < 100)
  wide n e = grind (arith, ints)

  can_cut : (n : Node) → IsValid (crossing_in first last) n → pos 50 <ℤ (n.b -ℤ n.a) → CanCut n.a n.b
  can_cut n v w = record { wide = omega (arith, ints, w); low = omega (arith, ints, low, v.from); high = omega (arith, ints, high, v.to) }

  crossing_cut : (n : Node) → IsValid (crossing_in first last) n → (crossing_in first last).verdict n ≡ Split → IsCut (crossing_in first last) n
  crossing_cut n v e =
      let w = wide n e in
      let inside = cut_inside Half n.a n.b (can_cut n v w.0) in
      record {
        cuts = record { from = refl; meet = refl; to = refl };
        left = record { from = v.from; inside = inside.0; to = omega (arith, ints, inside.1, v.to); depth = omega (arith, w.1) };
        right = record { from = omega (arith, ints, inside.0, v.from); inside = inside.1; to = v.to; depth = omega (arith, w.1) };
      }

  pub crossing_in_is_sound : IsSound (crossing_in first last)
  crossing_in_is_sound = record { low = low; high = high; cut = crossing_cut }
