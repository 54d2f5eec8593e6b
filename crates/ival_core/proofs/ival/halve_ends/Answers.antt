use Rattle.std.proofs.Common.{◌≡◌, ◌∙◌, ◌^◌, arith, to_z, of_z, w32, w64, pos, ◌+ℤ◌}
use Rattle.std.proofs.lemmas.Int.{ints, to_z-of_z}
use mir.Val.{SFits}
use Rattle.spec_numbers.specs.Numbers.{floor_div, ceil_div}
use Rattle.ival_core.proofs.Settling.{halved-IsIval, halved-narrow, halved-small}
use Rattle.ival_core.proofs.ival.halve_ends.Goals as goal
use Rattle.ival_core.proofs.ival.halve_ends.Goals.{After-shifted_high_end}

low_is : (c : After-shifted_high_end) → to_z w64 (of_z w64 c.shifted_low_end.result) ≡ floor_div c.args.lo (2 ^ c.args.k)
low_is c =
    let l = c.ranges.lo in
    let f : SFits w64 c.shifted_low_end.result = record { sfits = c.shifted_low_end.type_inv } in
    to_z-of_z w64 c.shifted_low_end.result f ∙ (simp to_z-of_z at c.shifted_low_end.ensures)

high_is : (c : After-shifted_high_end) → to_z w64 (of_z w64 c.shifted_high_end.result) ≡ ceil_div c.args.hi (2 ^ c.args.k)
high_is c =
    let h = c.ranges.hi in
    let f : SFits w64 c.shifted_high_end.result = record { sfits = c.shifted_high_end.type_inv } in
    to_z-of_z w64 c.shifted_high_end.result f ∙ (simp to_z-of_z at c.shifted_high_end.ensures)

exponent_is : (c : After-shifted_high_end) → to_z w32 (of_z w32 (to_z w32 (of_z w32 c.args.s) +ℤ to_z w32 c.args.k)) ≡ c.args.s +ℤ pos c.args.k
exponent_is c =
    let b = c.requires.few in
    let e = c.requires.exponent in
    omega (arith, ints)

pub shifted_low_end-requires-clause-small : goal.shifted_low_end-requires-clause-small
shifted_low_end-requires-clause-small c =
    let l = c.ranges.lo in
    simp to_z-of_z ((halved-small c.args.lo c.args.hi c.args.k c.requires.least).0)

pub shifted_high_end-requires-clause-small : goal.shifted_high_end-requires-clause-small
shifted_high_end-requires-clause-small c =
    let h = c.ranges.hi in
    simp to_z-of_z ((halved-small c.args.lo c.args.hi c.args.k c.requires.least).1)

pub ival_of_ends-requires : goal.ival_of_ends-requires
ival_of_ends-requires c =
    halved-IsIval c.args.lo c.args.hi _ _ c.args.k c.requires.least (low_is c) (high_is c) _ c.requires.ordered

pub returns : goal.returns
returns c =
    let d = (goal.at.returns c).After-shifted_high_end in
    c.ival_of_ends.ensures ∙ halved-narrow c.args.lo c.args.hi _ _ c.args.k c.requires.least (low_is d) (high_is d) c.args.s _ (exponent_is d)
