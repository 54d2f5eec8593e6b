use Rattle.std.proofs.Common.{◌≡◌, ◌∙◌, ◌^◌, pos, ◌*ℤ◌, to_z, of_z}
use Rattle.std.proofs.lemmas.Int.{to_z-of_z}
use mir.Syntax.{w128}
use Rattle.span_models.proofs.Exponents.{exponent_lowered}
use Rattle.span_models.proofs.NearMultiples.{line_near}
use Rattle.span_models.proofs.model.Model.of_line.Goals as goal

pub returns : goal.returns
returns c =
    let f = c.ranges.first in
    let s = c.ranges.second in
    let first : to_z w128 (of_z w128 c.power_multiple.result) ≡ pos (2 ^ c.spare_bits-j.result) *ℤ c.args.first = to_z-of_z w128 c.power_multiple.result (record { sfits = c.power_multiple.type_inv }) ∙ (simp to_z-of_z at c.power_multiple.ensures) in
    let second : to_z w128 (of_z w128 c.power_multiple-2.result) ≡ pos (2 ^ c.spare_bits-j.result) *ℤ c.args.second = to_z-of_z w128 c.power_multiple-2.result (record { sfits = c.power_multiple-2.type_inv }) ∙ (simp to_z-of_z at c.power_multiple-2.ensures) in
    line_near c.lists.ensures.near c.changes.ensures.lowered c.args.first c.args.second c.args.error c.args.exponent c.spare_bits-j.result _ _ c.line_coefficients-wide.result _ _ first second c.line_coefficients-wide.ensures.coefficients c.error_in_finer_unit.ensures (exponent_lowered c.args.exponent c.spare_bits-j.result c.requires c.spare_bits-j.ensures) c.settled.result c.settled.ensures
