use Rattle.span_models.proofs.Widened.{square_covered}
use Rattle.span_models.proofs.covering.square_of_nonnegative.Goals as goal

pub returns-in-Some : goal.returns-in-Some
returns-in-Some c = square_covered c.operations_are_covered.ensures.signed_square c.args.m.now c.in-Some.near (c.signed_squares_are_products.ensures.not_negative c.args.m.now c.in-Some.near c.requires c.in-Some.ensures) c.widen_by_product_rounding.result c.widen_by_product_rounding.ensures
