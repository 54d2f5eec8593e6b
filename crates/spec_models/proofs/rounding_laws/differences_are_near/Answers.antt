use Rattle.spec_models.proofs.SumRoundings.{difference_under, difference_over}
use Rattle.spec_models.proofs.rounding_laws.differences_are_near.Goals as goal

pub returns : goal.returns
returns c = record { low = difference_under; high = difference_over }
