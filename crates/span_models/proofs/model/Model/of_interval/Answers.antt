use Rattle.std.proofs.Common.{◌∙◌, rules, w32, w64}
use Rattle.std.proofs.lemmas.Int.{to_z-of_z}
use mir.Syntax.{w128}
use mir.Val.{SFits}
use Rattle.span_models.proofs.NearMultiples.{interval_covered}
use Rattle.span_models.proofs.model.Model.of_interval.Goals as goal

pub returns-then-unsigned_abs-le-EXPONENT_LIMIT : goal.returns-then-unsigned_abs-le-EXPONENT_LIMIT
returns-then-unsigned_abs-le-EXPONENT_LIMIT c =
    let f : SFits w128 c.parts-lo.result.0 = search rules in
    let g : SFits w128 c.parts-lo.result.1 = search rules in
    let h : SFits w32 c.parts-lo.result.2 = search rules in
    let m : SFits w64 c.middle_and_distance-middle.result.0 = search rules in
    interval_covered c.lists.ensures.near c.constants.ensures.near c.args.x _ _ _ _ _ _ c.middle_and_distance-middle.ensures (to_z-of_z w128 c.parts-lo.result.0 f ∙ c.parts-lo.ensures.lo) (to_z-of_z w128 c.parts-lo.result.1 g ∙ c.parts-lo.ensures.hi) (to_z-of_z w64 c.middle_and_distance-middle.result.0 m) (to_z-of_z w32 c.parts-lo.result.2 h ∙ c.parts-lo.ensures.exponent) c.of_line.result c.of_line.ensures
