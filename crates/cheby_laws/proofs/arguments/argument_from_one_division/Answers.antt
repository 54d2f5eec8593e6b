use Rattle.std.proofs.Common.{rules, arith, ◌≡◌, ◌≤◌, ◌*◌, ◌∙◌, to_z, of_z, w64, ◌^◌, pos, ◌*ℤ◌, unsigned_abs}
use Rattle.std.proofs.lemmas.Int.{to_z-of_z}
use mir.Syntax.{w128}
use mir.Val.{SFits}
use Rattle.spec_numbers.specs.Numbers.{floor_div, ceil_div}
use Rattle.spec_numbers.proofs.Floor.{ceil_div-small}
use Rattle.spec_chebyshev.specs.Rows.{argument_of}
use Rattle.cheby_laws.proofs.arguments.argument_from_one_division.Goals as goal

pub narrow_to_i64-requires-2 : goal.narrow_to_i64-requires-2
narrow_to_i64-requires-2 c =
    let a = c.ranges.u in
    let s : SFits w128 c.in_argument_units.result = record { sfits = c.in_argument_units.type_inv } in
    let r : SFits w128 c.floor_and_ceil-lo.result.1 = search rules in
    let size : unsigned_abs c.in_argument_units.result ≤ 2 ^ 60 * c.args.divider.now = omega (arith, c.in_argument_units.ensures.size, simp to_z-of_z at c.in_argument_units.ensures.size) in
    let e : c.floor_and_ceil-lo.result.1 ≡ ceil_div c.in_argument_units.result c.args.divider.now = simp to_z-of_z at c.floor_and_ceil-lo.ensures.high in
    rw (to_z-of_z w128 c.floor_and_ceil-lo.result.1 r, e) (ceil_div-small c.in_argument_units.result c.args.divider.now (2 ^ 60) (omega arith) size)

pub returns : goal.returns
unfolding argument_of
returns c =
    let a = c.ranges.u in
    let s1 : SFits w128 c.in_argument_units.result = record { sfits = c.in_argument_units.type_inv } in
    let r0 : SFits w128 c.floor_and_ceil-lo.result.0 = search rules in
    let r1 : SFits w128 c.floor_and_ceil-lo.result.1 = search rules in
    let s : c.in_argument_units.result ≡ c.args.u *ℤ pos (2 ^ 60) = simp to_z-of_z at c.in_argument_units.ensures.equals in
    let d : c.floor_and_ceil-lo.result.0 ≡ floor_div c.in_argument_units.result c.args.divider.now = simp to_z-of_z at c.floor_and_ceil-lo.ensures.low in
    let u : c.floor_and_ceil-lo.result.1 ≡ ceil_div c.in_argument_units.result c.args.divider.now = simp to_z-of_z at c.floor_and_ceil-lo.ensures.high in
    let l : c.narrow_to_i64.result ≡ c.floor_and_ceil-lo.result.0 = simp to_z-of_z at c.narrow_to_i64.ensures in
    let h : c.narrow_to_i64-2.result ≡ c.floor_and_ceil-lo.result.1 = simp to_z-of_z at c.narrow_to_i64-2.ensures in
    let lr : to_z w64 (of_z w64 c.narrow_to_i64.result) ≡ floor_div (c.args.u *ℤ pos (2 ^ 60)) c.args.divider.now = to_z-of_z w64 c.narrow_to_i64.result (record { sfits = c.narrow_to_i64.type_inv }) ∙ (l ∙ (d ∙ rw s)) in
    let hr : to_z w64 (of_z w64 c.narrow_to_i64-2.result) ≡ ceil_div (c.args.u *ℤ pos (2 ^ 60)) c.args.divider.now = to_z-of_z w64 c.narrow_to_i64-2.result (record { sfits = c.narrow_to_i64-2.type_inv }) ∙ (h ∙ (u ∙ rw s)) in
    rw (lr, hr)
