use Rattle.std.proofs.Common.{◌≡◌, ◌∙◌, rules, to_z, of_z}
use Rattle.std.proofs.lemmas.Int.{to_z-of_z}
use mir.Syntax.{w128}
use Rattle.spec_numbers.specs.Numbers.{floor_div, ceil_div}
use Rattle.spec_intervals.specs.Interval.{decimal_top, decimal_bottom}
use Rattle.spec_intervals.proofs.DecimalEnds.{decimal-IsIval, from_decimal-parts}
use Rattle.ival_core.proofs.Passing.{kept}
use Rattle.ival_core.proofs.ival.decimal_ival.Goals as goal
use Rattle.ival_core.proofs.ival.decimal_ival.Goals.{After-decimal_ends-lo}

ends_are : (c : After-decimal_ends-lo) → (to_z w128 (of_z w128 c.decimal_ends-lo.result.0) ≡ floor_div (decimal_top c.args.mant c.args.exp c.args.s) (decimal_bottom c.args.exp c.args.s)) × (to_z w128 (of_z w128 c.decimal_ends-lo.result.1) ≡ ceil_div (decimal_top c.args.mant c.args.exp c.args.s) (decimal_bottom c.args.exp c.args.s))
ends_are c =
    let m = c.ranges.mant in
    let q = c.ranges.exp in
    let s = c.ranges.s in
    (kept c.decimal_ends-lo.result.0 _ (search rules) (simp to_z-of_z at c.decimal_ends-lo.ensures.low), kept c.decimal_ends-lo.result.1 _ (search rules) (simp to_z-of_z at c.decimal_ends-lo.ensures.high))

pub unnormalized_ival-requires : goal.unnormalized_ival-requires
unnormalized_ival-requires c =
    let s = c.ranges.s in
    let is = ends_are (goal.at.unnormalized_ival-requires c).After-decimal_ends-lo in
    rw (is.0, is.1) (simp to_z-of_z (decimal-IsIval c.args.mant c.args.exp c.args.s c.requires.below c.requires.size))

pub returns : goal.returns
returns c =
    let s = c.ranges.s in
    let is = ends_are (goal.at.returns c).After-decimal_ends-lo in
    (simp to_z-of_z at c.unnormalized_ival.ensures) ∙ from_decimal-parts c.args.mant c.args.exp c.args.s c.requires.below c.requires.size _ _ is.0 is.1
