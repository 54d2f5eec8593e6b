use Rattle.spec_intervals.proofs.Products.{Holds-product}
use Rattle.spec_intervals.proofs.laws.products_hold_products.Goals as goal

pub returns : goal.returns
returns c = Holds-product
