use Rattle.spec_numbers.proofs.Corners.{corner_low}
use Rattle.spec_numbers.proofs.laws.corner_products_bound_all_products.Goals as goal

pub returns : goal.returns
returns c = corner_low
