use Rattle.spec_models.proofs.SumRoundings.{sum_under, sum_over}
use Rattle.spec_models.proofs.rounding_laws.sums_are_near.Goals as goal

pub returns : goal.returns
returns c = record { low = sum_under; high = sum_over }
