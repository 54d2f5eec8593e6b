use Rattle.spec_models.proofs.ProductRoundings.{product_corner_under, product_corner_over}
use Rattle.spec_models.proofs.rounding_laws.products_are_near.Goals as goal

pub returns : goal.returns
returns c = record { low = product_corner_under; high = product_corner_over }
