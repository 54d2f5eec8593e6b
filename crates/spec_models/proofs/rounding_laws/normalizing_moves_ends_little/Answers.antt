use Rattle.spec_models.proofs.NarrowedRoundings.{narrowed_under, narrowed_over}
use Rattle.spec_models.proofs.rounding_laws.normalizing_moves_ends_little.Goals as goal

pub returns : goal.returns
returns c = record { low = narrowed_under; high = narrowed_over }
