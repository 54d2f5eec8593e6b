use Rattle.std.proofs.Common.{ℤ, pos, ◌+ℤ◌, ◌-ℤ◌, int_div, sym, ap, arith}
use Rattle.std.proofs.lemmas.Int.{ints, to_z-of_z}
use Rattle.spec_trees.specs.declared.cuts.CutRule.{CutRule}
use Rattle.spec_trees.specs.Cuts.{CanCut, cut_of}
use Rattle.gf_hooks.proofs.Widths.{width_fits}
use mir.Syntax.{w64}
use mir.Val.{SFits}
use Rattle.gf_hooks.proofs.rules.rule_cut.Goals as goal

half_fits : (a b : ℤ) → CanCut a b → SFits w64 (int_div (b -ℤ a) (pos 2))
half_fits a b c = omega (arith, ints, c.wide, c.low, c.high)

sum_fits : (a b : ℤ) → CanCut a b → SFits w64 (a +ℤ int_div (b -ℤ a) (pos 2))
sum_fits a b c = omega (arith, ints, c.wide, c.low, c.high)

pub overflow_sub-result : goal.overflow_sub-result
overflow_sub-result c =
    let a : SFits w64 c.args.a = c.ranges.a in
    let b : SFits w64 c.args.b = c.ranges.b in
    simp to_z-of_z (width_fits c.args.a c.args.b c.requires)

pub overflow_add-result : goal.overflow_add-result
overflow_add-result c =
    let a : SFits w64 c.args.a = c.ranges.a in
    let b : SFits w64 c.args.b = c.ranges.b in
    let width : SFits w64 (c.args.b -ℤ c.args.a) = width_fits c.args.a c.args.b c.requires in
    let half : SFits w64 (int_div (c.args.b -ℤ c.args.a) (pos 2)) = half_fits c.args.a c.args.b c.requires in
    simp to_z-of_z (sum_fits c.args.a c.args.b c.requires)

pub third_cut-requires : goal.third_cut-requires
third_cut-requires c =
    let a : SFits w64 c.args.a = c.ranges.a in
    let b : SFits w64 c.args.b = c.ranges.b in
    simp to_z-of_z c.requires

pub returns-in-Half : goal.returns-in-Half
returns-in-Half c =
    let a : SFits w64 c.args.a = c.ranges.a in
    let b : SFits w64 c.args.b = c.ranges.b in
    let width : SFits w64 (c.args.b -ℤ c.args.a) = width_fits c.args.a c.args.b c.requires in
    let half : SFits w64 (int_div (c.args.b -ℤ c.args.a) (pos 2)) = half_fits c.args.a c.args.b c.requires in
    let sum : SFits w64 (c.args.a +ℤ int_div (c.args.b -ℤ c.args.a) (pos 2)) = sum_fits c.args.a c.args.b c.requires in
    simp to_z-of_z (ap (λ (r : CutRule). cut_of r c.args.a c.args.b) (sym c.in-Half.is))
