-- The rules of the tests' judges, which are sound.
use Rattle.std.proofs.Common.{◌≡◌, ◌<◌, ℕ, Bool, ◌&&◌, ℤ, pos, neg_ℤ, ◌-ℤ◌, ◌<ℤ◌, int_div, int_lt, nat_lt, if◌then◌else◌, refl, arith}
use Rattle.std.proofs.lemmas.Int.{ints}
use Rattle.std.specs.Int.{int_max}
use Rattle.spec_trees.specs.declared.cuts.CutRule.TheVariants.{Third}
use Rattle.spec_trees.specs.declared.tree.Node.{Node}
use Rattle.spec_trees.specs.declared.tree.Verdict.TheVariants.{Clear, Split}
use Rattle.spec_trees.specs.CutExamples.{pairs, parts_at}
use Rattle.spec_trees.specs.Tree.{Rules, IsCut, IsSound, IsValid}
use Rattle.pool_core.specs.Examples.{crossing_in, crossing_in_is_sound}

-- a root at depth 0
abbrev pub span : ℤ → ℤ → Node
span a b = record { a = a; b = b; depth = 0 }

-- a tree from time 0 to `last`: nodes are split where a test holds, down to a depth
abbrev tree_to : ℤ → ℕ → (Node → Bool) → (Node → Node × Node) → Rules
tree_to last deepest is_split parts = record {
  first = pos 0;
  last = last;
  deepest = deepest;
  verdict = λ n. if is_split n then Split else Clear;
  parts = parts;
}

-- ---- a comb: each node wider than one tick loses its last tick, and the tree is as deep as the root is wide
abbrev pub is_comb : Node → Bool
is_comb n = int_lt (pos 1) (n.b -ℤ n.a) && nat_lt n.depth 20000

abbrev pub comb : Rules
comb = tree_to (pos 20000) 20000 is_comb (λ n. parts_at (n.b -ℤ pos 1) n)

comb_wide : (n : Node) → comb.verdict n ≡ Split → (pos 1 <ℤ (n.b -ℤ n.a)) × (n.depth < 20000)
comb_wide n e = grind (arith, ints)

comb_cut : (n : Node) → IsValid comb n → comb.verdict n ≡ Split → IsCut comb n
comb_cut n v e = let w = comb_wide n e in record {
  cuts = record { from = refl; meet = refl; to = refl };
  left = record { from = v.from; inside = omega (arith, ints); to = omega (arith, ints); depth = omega arith };
  right = record { from = omega (arith, ints); inside = omega (arith, ints); to = v.to; depth = omega arith };
}

pub comb_is_sound : IsSound comb
comb_is_sound = record { low = omega (arith, ints); high = omega (arith, ints); cut = comb_cut }

-- ---- thirds: each node wider than two ticks is cut at its first third
abbrev pub thirds : Rules
thirds = pairs Third

pub thirds_wide : (n : Node) → thirds.verdict n ≡ Split → (pos 2 <ℤ (n.b -ℤ n.a)) × (n.depth < 100)
thirds_wide n e = grind (arith, ints)

third_inside : (w : ℤ) → pos 2 <ℤ w → (pos 0 <ℤ int_max (pos 1) (int_div w (pos 3))) × (int_max (pos 1) (int_div w (pos 3)) <ℤ w)
third_inside w h = grind (arith, ints)

-- a third of what is wider than two ticks is at least one
pub third_is : (w : ℤ) → pos 2 <ℤ w → int_max (pos 1) (int_div w (pos 3)) ≡ int_div w (pos 3)
third_is w h = grind (arith, ints)

thirds_cut : (n : Node) → IsValid thirds n → thirds.verdict n ≡ Split → IsCut thirds n
thirds_cut n v e =
    let w = thirds_wide n e in
    let t = third_inside (n.b -ℤ n.a) w.0 in
    record {
      cuts = record { from = refl; meet = refl; to = refl };
      left = record { from = v.from; inside = omega (arith, ints, t.0); to = omega (arith, ints, t.1, v.to); depth = omega (arith, w.1) };
      right = record { from = omega (arith, ints, t.0, v.from); inside = omega (arith, ints, t.1); to = v.to; depth = omega (arith, w.1) };
    }

pub thirds_are_sound : IsSound thirds
thirds_are_sound = record { low = omega (arith, ints); high = omega (arith, ints); cut = thirds_cut }

-- ---- stairs: a node that begins at 0 and is wider than one second loses its last second, and all are at depth 0
abbrev pub is_stair : Node → Bool
is_stair n = int_lt n.a (pos 1) && int_lt (pos 1) n.b

abbrev pub stairs : Rules
stairs = tree_to (pos 100) 0 is_stair (λ n. (span n.a (n.b -ℤ pos 1), span (n.b -ℤ pos 1) n.b))

stair_is_wide : (n : Node) → stairs.verdict n ≡ Split → (n.a <ℤ pos 1) × (pos 1 <ℤ n.b)
stair_is_wide n e = grind (arith, ints)

stair_cut : (n : Node) → IsValid stairs n → stairs.verdict n ≡ Split → IsCut stairs n
stair_cut n v e = let w = stair_is_wide n e in record {
  cuts = record { from = refl; meet = refl; to = refl };
  left = record { from = v.from; inside = omega (arith, ints, w.0, w.1); to = omega (arith, ints, v.to); depth = omega arith };
  right = record { from = omega (arith, ints, w.1); inside = omega (arith, ints); to = v.to; depth = omega arith };
}

pub stairs_are_sound : IsSound stairs
stairs_are_sound = record { low = omega (arith, ints); high = omega (arith, ints); cut = stair_cut }

-- ---- a crossing in 32 days
abbrev pub long_crossing : Rules
long_crossing = crossing_in (neg_ℤ (pos 43200)) (pos 2721600)

pub long_crossing_is_sound : IsSound long_crossing
long_crossing_is_sound = crossing_in_is_sound (neg_ℤ (pos 43200)) (pos 2721600) (omega (arith, ints)) (omega (arith, ints))
