use Rattle.spec_meanings.proofs.Distances.{separation_means}
use Rattle.spec_meanings.proofs.laws.separations_are_compared.Goals as goal

pub returns : goal.returns
returns c = separation_means
