use Rattle.std.proofs.Common.{◌∙◌, ◌+ℤ◌, ◌-ℤ◌, to_z, of_z, w64}
use Rattle.std.proofs.lemmas.Int.{to_z-of_z}
use mir.Syntax.{w128}
use Rattle.spec_numbers.specs.Numbers.{floor_div}
use Rattle.span_models.proofs.Fitting.{middle_is}
use Rattle.span_models.proofs.making.middle_and_distance.Goals as goal

pub returns : goal.returns
returns c =
    let lo = to_z-of_z w128 c.args.lo c.ranges.lo in
    let hi = to_z-of_z w128 c.args.hi c.ranges.hi in
    middle_is c.args.lo c.args.hi (to_z w64 (of_z w64 c.half_sum-middle.result)) c.distance_above-distance.result (to_z-of_z w64 c.half_sum-middle.result (record { sfits = c.half_sum-middle.type_inv }) ∙ c.half_sum-middle.ensures ∙ λ i. floor_div (lo i +ℤ hi i) 2) (c.distance_above-distance.ensures ∙ λ i. hi i -ℤ to_z w64 (of_z w64 c.half_sum-middle.result)) c.requires.ordered
