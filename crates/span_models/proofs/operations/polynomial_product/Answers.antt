use Rattle.span_models.proofs.Exponents.{exponents_added}
use Rattle.span_models.proofs.NearProducts.{product_near, product_reached}
use Rattle.span_models.proofs.operations.polynomial_product.Goals as goal

pub returns : goal.returns
returns c =
    product_reached c.settled.result _ c.args.m.now c.args.n.now c.settled.ensures (product_near c.operations.ensures.product c.changes.ensures.cut c.changes.ensures.error c.args.m.now c.args.n.now c.coefficients.result.now c.coefficients-2.result.now c.product_coefficients-wide.result c.product_error-error.result _ c.coefficients.ensures.equals c.coefficients-2.ensures.equals c.coefficients.ensures.small c.coefficients-2.ensures.small c.product_coefficients-wide.ensures.small.count c.product_coefficients-wide.ensures.columns c.product_error-error.ensures (exponents_added c.exponent.result c.exponent-2.result _ _ c.exponent.ensures.equals c.exponent-2.ensures.equals c.exponent.ensures.small.exponent c.exponent-2.ensures.small.exponent))
