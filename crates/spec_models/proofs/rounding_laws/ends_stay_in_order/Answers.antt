use Rattle.std.proofs.Common.{rules}
use Rattle.spec_models.proofs.Ordered.{narrow_ordered, sum_ordered, difference_ordered, product_ordered, signed_square_ordered, scale_ordered}
use Rattle.spec_models.proofs.rounding_laws.ends_stay_in_order.Goals as goal

pub returns : goal.returns
returns c = search (rules, narrow_ordered, sum_ordered, difference_ordered, product_ordered, signed_square_ordered, scale_ordered)
