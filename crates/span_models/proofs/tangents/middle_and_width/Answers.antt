use Rattle.std.proofs.Common.{◌∙◌, pos, ◌-ℤ◌, to_z, of_z, w64, ap}
use Rattle.std.proofs.lemmas.Int.{to_z-of_z}
use Rattle.std.specs.Int.{int_max}
use Rattle.span_models.proofs.TangentSteps.{place_is}
use Rattle.span_models.proofs.tangents.middle_and_width.Goals as goal

pub returns : goal.returns
returns c =
    let f = c.ranges.first in
    let l = c.ranges.last in
    place_is c.args.first c.args.last c.args.q c.requires.first c.requires.last c.requires.ordered _ _ (to_z-of_z w64 c.half_sum-middle.result (record { sfits = c.half_sum-middle.type_inv }) ∙ (simp to_z-of_z at c.half_sum-middle.ensures)) (to_z-of_z w64 c.width_above_middle-width.result (record { sfits = c.width_above_middle-width.type_inv }) ∙ c.width_above_middle-width.ensures ∙ ap (λ z. int_max (pos 1) (z -ℤ to_z w64 (of_z w64 c.half_sum-middle.result))) (to_z-of_z w64 c.args.last c.ranges.last))
