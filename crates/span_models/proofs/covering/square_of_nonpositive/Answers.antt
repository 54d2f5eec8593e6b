use Rattle.std.proofs.Common.{subst, sym}
use Rattle.spec_models.specs.Models.{Model}
use Rattle.spec_covers.specs.Combining.{OpposesTo}
use Rattle.span_models.proofs.Widened.{square_covered}
use Rattle.span_models.proofs.covering.square_of_nonpositive.Goals as goal

pub returns-in-Some : goal.returns-in-Some
returns-in-Some c = square_covered c.operations_are_covered.ensures.signed_square c.args.m.now c.negated.result (c.signed_squares_are_products.ensures.not_positive c.args.m.now c.in-Some.near c.negated.result c.requires c.in-Some.ensures (subst (λ (k : Model). OpposesTo c.in-Some.near k) (sym c.negated.ensures) (λ p q r g near. c.operations.ensures.negated p q g c.in-Some.near r near))) c.widen_by_product_rounding.result c.widen_by_product_rounding.ensures
