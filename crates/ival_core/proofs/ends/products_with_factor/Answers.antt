use Rattle.ival_core.proofs.Passing.{order_of_ends}
use Rattle.ival_core.proofs.ends.products_with_factor.Goals as goal

pub ends_by_product-low-requires : goal.ends_by_product-low-requires
ends_by_product-low-requires c = order_of_ends c.args.a c.args.b c.ranges.a c.ranges.b c.requires
