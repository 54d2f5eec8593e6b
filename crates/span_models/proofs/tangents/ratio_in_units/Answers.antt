use Rattle.std.proofs.Common.{◌≡◌, ◌∙◌, ◌^◌, arith, ap, pos, ◌*ℤ◌, unsigned_abs, to_z, of_z, w64}
use Rattle.std.proofs.lemmas.Int.{ints, to_z-of_z}
use mir.Syntax.{w128}
use Rattle.spec_numbers.specs.Numbers.{floor_div}
use Rattle.spec_numbers.proofs.Floor.{floor_div-small}
use Rattle.span_models.specs.Tangents.{ratio}
use Rattle.span_models.proofs.Fitting.{factor_kept, unit_fits, unit_small}
use Rattle.span_models.proofs.tangents.ratio_in_units.Goals as goal
use Rattle.span_models.proofs.tangents.ratio_in_units.Goals.{After-floor_quotient}

pub overflow_mul-z : goal.overflow_mul-z
overflow_mul-z c = rw (factor_kept c.args.z c.ranges.z) (unit_fits c.args.z c.ranges.z)

pub floor_quotient-requires-clause-small : goal.floor_quotient-requires-clause-small
floor_quotient-requires-clause-small c = rw (factor_kept c.args.z c.ranges.z, to_z-of_z w128 (c.args.z *ℤ pos (2 ^ 56)) (unit_fits c.args.z c.ranges.z), to_z-of_z w64 c.args.q c.ranges.q) (unit_small c.args.z c.args.q c.requires.inside)

ratio_is : (c : After-floor_quotient) → to_z w64 (of_z w64 c.floor_quotient.result) ≡ ratio c.args.z c.args.q
ratio_is c =
    let unit = to_z-of_z w128 (c.args.z *ℤ pos (2 ^ 56)) (unit_fits c.args.z c.ranges.z) in
    let factor = factor_kept c.args.z c.ranges.z in
    let divisor = ap unsigned_abs (to_z-of_z w64 c.args.q c.ranges.q) in
    to_z-of_z w64 c.floor_quotient.result (record { sfits = c.floor_quotient.type_inv }) ∙ c.floor_quotient.ensures
    ∙ (λ i. floor_div (to_z w128 (of_z w128 (factor i *ℤ pos (2 ^ 56)))) (divisor i))
    ∙ ap (λ y. floor_div y (unsigned_abs c.args.q)) unit

pub returns-clause-equals : goal.returns-clause-equals
returns-clause-equals c = ratio_is c

pub returns-clause-small : goal.returns-clause-small
returns-clause-small c =
    let p = c.requires.positive in
    rw (ratio_is c) (floor_div-small (c.args.z *ℤ pos (2 ^ 56)) (unsigned_abs c.args.q) (2 ^ 56) (omega (arith, ints, p)) (unit_small c.args.z c.args.q c.requires.inside))
