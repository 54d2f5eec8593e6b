use Rattle.spec_models.proofs.ProductRoundings.{square_under, square_over}
use Rattle.spec_models.proofs.rounding_laws.signed_squares_are_near.Goals as goal

pub returns : goal.returns
returns c = record { low = square_under; high = square_over }
