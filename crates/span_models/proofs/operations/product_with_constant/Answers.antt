use Rattle.std.proofs.Common.{◌≡◌, ◌∙◌, ◌+◌, ◌*◌, ◌*ℤ◌, arith, slice_index_or, pos, to_z, of_z, unsigned_abs, w64}
use Rattle.std.proofs.lemmas.Int.{ints, to_z-of_z}
use Rattle.spec_models.specs.Models.{sizes}
use Rattle.span_models.proofs.Exponents.{exponents_added}
use Rattle.span_models.proofs.NearConstants.{constant_near}
use Rattle.span_models.proofs.NearProducts.{product_reached}
use Rattle.span_models.proofs.operations.product_with_constant.Goals as goal

pub returns : goal.returns
returns c =
    let m = c.args.m.now in
    let first = c.first_coefficient-first.result in
    let small = c.first_coefficient-first.ensures.small in
    let kept : to_z w64 (of_z w64 first) ≡ first = to_z-of_z w64 first (omega (arith, ints, small)) in
    product_reached c.settled.result _ c.args.c.now m c.settled.ensures
    (constant_near c.operations.ensures.product c.lists.ensures.near c.changes.ensures.error c.args.c.now m first c.coefficient_multiples-wide.result c.constant_product_error-error.result _ c.requires.constant c.coefficients.ensures.small c.coefficients-2.ensures.small
    (c.first_coefficient-first.ensures.equals ∙ λ i. slice_index_or (c.coefficients.ensures.equals i) 0 (pos 0))
    c.coefficient_multiples-wide.ensures.count
    (λ k below. c.coefficient_multiples-wide.ensures.products k below ∙ λ i. kept i *ℤ slice_index_or (c.coefficients-2.ensures.equals i) k (pos 0))
    (c.constant_product_error-error.ensures ∙ λ i. unsigned_abs (kept i) * m.error + sizes m.coefficients * c.error.ensures.equals i + c.error.ensures.equals i * m.error)
    (exponents_added c.exponent.result c.exponent-2.result _ _ c.exponent.ensures.equals c.exponent-2.ensures.equals c.exponent.ensures.small.exponent c.exponent-2.ensures.small.exponent))
