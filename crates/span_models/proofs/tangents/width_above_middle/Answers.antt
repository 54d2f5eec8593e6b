use Rattle.std.proofs.Common.{◌∙◌, ap, to_z, of_z, w64}
use Rattle.std.proofs.lemmas.Int.{to_z-of_z}
use mir.Syntax.{w128}
use Rattle.span_models.proofs.Fitting.{factor_kept, difference_fits, width_is, width_fits}
use Rattle.span_models.proofs.tangents.width_above_middle.Goals as goal

pub overflow_sub-last : goal.overflow_sub-last
overflow_sub-last c = rw (factor_kept c.args.last c.ranges.last, factor_kept c.args.middle c.ranges.middle) (difference_fits c.args.last c.args.middle c.ranges.last c.ranges.middle)

pub overflow_cast-result : goal.overflow_cast-result
overflow_cast-result c = rw (to_z-of_z w128 c.max.result (record { sfits = c.max.type_inv })) (width_fits c.args.middle c.args.last c.args.q c.max.result c.ranges.middle c.ranges.last c.ranges.q c.requires.ordered c.requires.near c.max.ensures.value)

pub returns : goal.returns
returns c =
    let fits = width_fits c.args.middle c.args.last c.args.q c.max.result c.ranges.middle c.ranges.last c.ranges.q c.requires.ordered c.requires.near c.max.ensures.value in
    ap (λ y. to_z w64 (of_z w64 y)) (to_z-of_z w128 c.max.result (record { sfits = c.max.type_inv })) ∙ to_z-of_z w64 c.max.result fits
    ∙ width_is c.args.middle c.args.last c.args.q c.max.result c.ranges.middle c.ranges.last c.ranges.q c.requires.ordered c.requires.near c.max.ensures.value
