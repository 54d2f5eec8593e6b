use Rattle.spec_meanings.proofs.DiscMeanings.{annular_means}
use Rattle.spec_meanings.proofs.laws.annular_occultations_lie_within_the_second_body.Goals as goal

pub returns : goal.returns
returns c = annular_means
