use Rattle.std.proofs.Common.{◌≡◌, ◌∙◌, ap, rules, w64}
use Rattle.std.proofs.lemmas.Int.{to_z-of_z}
use mir.Val.{SFits}
use Rattle.span_models.specs.Tangents.{IsPlace, line, tangent}
use Rattle.span_models.proofs.Exponents.{exponent_kept}
use Rattle.span_models.proofs.NearMargins.{margin_known}
use Rattle.span_models.proofs.model.Model.outlook.Goals as goal

pub returns-in-Some : goal.returns-in-Some
returns-in-Some c =
    let f = c.ranges.first in
    let l = c.ranges.last in
    let q = c.ranges.q in
    let m : SFits w64 c.middle_and_width-middle.result.0 = search rules in
    let w : SFits w64 c.middle_and_width-middle.result.1 = search rules in
    let place : IsPlace c.args.first c.args.last c.args.q c.middle_and_width-middle.result.0 c.middle_and_width-middle.result.1 = simp to_z-of_z at c.middle_and_width-middle.ensures in
    let made : c.line_in_units-line.result ≡ line c.middle_and_width-middle.result.0 c.middle_and_width-middle.result.1 c.args.q = simp to_z-of_z at c.line_in_units-line.ensures.equals in
    margin_known c.constants.ensures.near c.constants.ensures.low c.constants.ensures.high c.widenings.ensures.around c.arguments.ensures.line c.operations.ensures.product c.operations.ensures.sum c.changes.ensures.cut c.changes.ensures.raised c.lists.ensures.near c.betweens.ensures.same c.args.self.now c.args.first c.args.last c.args.q c.middle_and_width-middle.result.0 c.middle_and_width-middle.result.1 place c.requires.first.positive c.in-Some.known c.coefficients.result.now c.coefficients.ensures.equals (c.in-Some.ensures.equals ∙ ap (λ x. tangent x c.coefficients.result.now) made) c.error.result _ c.error.ensures.equals (exponent_kept c.exponent.result _ c.exponent.ensures.equals c.exponent.ensures.small.exponent) c.tangent_margin.result c.tangent_margin.ensures
