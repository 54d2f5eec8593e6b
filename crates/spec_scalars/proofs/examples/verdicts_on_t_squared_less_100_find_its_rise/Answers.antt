use Rattle.std.proofs.Common.{refl}
use Rattle.spec_events.specs.Verdict.{verdict}
use Rattle.spec_scalars.specs.Searches.{verdict_of}
use Rattle.spec_scalars.proofs.examples.verdicts_on_t_squared_less_100_find_its_rise.Goals as goal

pub returns : goal.returns
unfolding verdict verdict_of
returns c = record { root = refl; deep = refl; below_zero = refl; passing = refl }
