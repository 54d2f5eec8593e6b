use Rattle.span_models.proofs.Widened.{product_covered}
use Rattle.span_models.proofs.model.Model.covering_product.Goals as goal

pub returns-in-Some : goal.returns-in-Some
returns-in-Some c = product_covered c.operations_are_covered.ensures.product c.args.self.now c.args.other.now c.in-Some.near c.in-Some.ensures c.widen_by_product_rounding.result c.widen_by_product_rounding.ensures
