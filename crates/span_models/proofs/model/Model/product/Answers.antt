use Rattle.span_models.proofs.NearConstants.{product_swapped}
use Rattle.span_models.proofs.model.Model.product.Goals as goal

pub returns-then-is_constant-2 : goal.returns-then-is_constant-2
returns-then-is_constant-2 c = product_swapped c.product_with_constant-then-is_constant-2.result c.args.other.now c.args.self.now c.product_with_constant-then-is_constant-2.ensures
