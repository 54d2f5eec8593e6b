use Rattle.span_models.proofs.Numbers.{first_kept}
use Rattle.span_models.proofs.Widened.{not_positive}
use Rattle.span_models.proofs.covering.is_not_positive.Goals as goal

pub returns : goal.returns
returns c h =
    not_positive c.signed_squares_are_products.ensures.first_below c.args.m.now.coefficients c.args.m.now.error c.args.m.now.exponent _ _ c.coefficients.ensures.small.coefficients.count
    (first_kept c.coefficients.result.now c.args.m.now.coefficients c.coefficients.ensures.equals c.coefficients.ensures.small.coefficients) c.bulk.ensures (c.is_at_most_minus_twice.ensures h)
