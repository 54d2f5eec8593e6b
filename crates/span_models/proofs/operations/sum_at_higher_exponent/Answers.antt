use Rattle.std.proofs.Common.{◌+◌, refl}
use Rattle.span_models.proofs.Exponents.{exponent_kept, gap_kept}
use Rattle.span_models.proofs.NearSums.{sum_near, sum_reached}
use Rattle.span_models.proofs.operations.sum_at_higher_exponent.Goals as goal

pub returns : goal.returns
returns c =
    let lower = c.exponent.ensures.small in
    let upper = c.exponent-2.ensures.small in
    sum_reached c.settled.result _ c.args.lower.now c.args.upper.now c.settled.ensures (sum_near c.changes.ensures.raised c.operations.ensures.sum c.exponent_gap-k.result c.args.lower.now c.args.upper.now c.coefficients.result.now c.coefficients-2.result.now c.coefficient_sums-wide.result c.error.result _ c.args.lower.now.exponent _ c.coefficients.ensures.equals c.coefficients-2.ensures.equals c.error.ensures.equals refl (exponent_kept c.exponent-3.result _ c.exponent-3.ensures.equals upper.exponent) lower c.coefficient_sums-wide.ensures.equals (λ i. c.error_in_coarser_unit.ensures.equals i + c.error-2.ensures.equals i) (gap_kept c.exponent.result c.exponent-2.result c.exponent-3.result _ _ c.exponent_gap-k.result c.exponent.ensures.equals c.exponent-2.ensures.equals c.exponent-3.ensures.equals lower.exponent upper.exponent c.exponent_gap-k.ensures))
