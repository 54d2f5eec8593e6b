use Rattle.std.proofs.Common.{◌≡◌, ◌∙◌, to_z, of_z, w64, ◌^◌, pos, ◌*ℤ◌}
use Rattle.std.proofs.lemmas.Int.{to_z-of_z}
use mir.Syntax.{w128}
use mir.Val.{SFits}
use Rattle.spec_numbers.specs.Numbers.{floor_div, ceil_div}
use Rattle.spec_chebyshev.specs.Rows.{argument_of}
use Rattle.cheby_laws.proofs.arguments.argument_ends.Goals as goal

pub returns : goal.returns
unfolding argument_of
returns c =
    let a = c.ranges.ua in
    let b = c.ranges.ub in
    let s1 : SFits w128 c.in_argument_units.result = record { sfits = c.in_argument_units.type_inv } in
    let s2 : SFits w128 c.in_argument_units-2.result = record { sfits = c.in_argument_units-2.type_inv } in
    let d1 : SFits w128 c.down.result = record { sfits = c.down.type_inv } in
    let u1 : SFits w128 c.up.result = record { sfits = c.up.type_inv } in
    let s : c.in_argument_units.result ≡ c.args.ua *ℤ pos (2 ^ 60) = simp to_z-of_z at c.in_argument_units.ensures.equals in
    let t : c.in_argument_units-2.result ≡ c.args.ub *ℤ pos (2 ^ 60) = simp to_z-of_z at c.in_argument_units-2.ensures.equals in
    let d : c.down.result ≡ floor_div c.in_argument_units.result c.args.divider.now = simp to_z-of_z at c.down.ensures.equals in
    let u : c.up.result ≡ ceil_div c.in_argument_units-2.result c.args.divider.now = simp to_z-of_z at c.up.ensures.equals in
    let l : c.narrow_to_i64.result ≡ c.down.result = simp to_z-of_z at c.narrow_to_i64.ensures in
    let h : c.narrow_to_i64-2.result ≡ c.up.result = simp to_z-of_z at c.narrow_to_i64-2.ensures in
    let lr : to_z w64 (of_z w64 c.narrow_to_i64.result) ≡ floor_div (c.args.ua *ℤ pos (2 ^ 60)) c.args.divider.now = to_z-of_z w64 c.narrow_to_i64.result (record { sfits = c.narrow_to_i64.type_inv }) ∙ (l ∙ (d ∙ rw s)) in
    let hr : to_z w64 (of_z w64 c.narrow_to_i64-2.result) ≡ ceil_div (c.args.ub *ℤ pos (2 ^ 60)) c.args.divider.now = to_z-of_z w64 c.narrow_to_i64-2.result (record { sfits = c.narrow_to_i64-2.type_inv }) ∙ (h ∙ (u ∙ rw t)) in
    rw (lr, hr)
