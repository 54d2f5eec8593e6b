-- A cut lies strictly inside its span.
use Rattle.std.proofs.Common.{ℤ, pos, ◌-ℤ◌, ◌<ℤ◌, int_div, arith}
use Rattle.std.proofs.lemmas.Int.{ints}
use Rattle.std.specs.Int.{int_max}
use Rattle.spec_trees.specs.declared.cuts.CutRule.{CutRule}
use Rattle.spec_trees.specs.declared.cuts.CutRule.TheVariants.{Half, Third}
use Rattle.spec_trees.specs.Cuts.{CanCut, cut_of}

third_inside : (w : ℤ) → pos 1 <ℤ w → (pos 0 <ℤ int_max (pos 1) (int_div w (pos 3))) × (int_max (pos 1) (int_div w (pos 3)) <ℤ w)
third_inside w h = grind (arith, ints)

pub cut_inside : (rule : CutRule) (a b : ℤ) → CanCut a b → (a <ℤ cut_of rule a b) × (cut_of rule a b <ℤ b)
cut_inside Half a b c = (omega (arith, ints, c.wide), omega (arith, ints, c.wide))
cut_inside Third a b c =
    let t = third_inside (b -ℤ a) (omega (arith, ints, c.wide)) in
    (omega (arith, ints, t.0), omega (arith, ints, t.1))
