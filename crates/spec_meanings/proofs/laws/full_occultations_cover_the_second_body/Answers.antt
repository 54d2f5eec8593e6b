use Rattle.spec_meanings.proofs.DiscMeanings.{full_means}
use Rattle.spec_meanings.proofs.laws.full_occultations_cover_the_second_body.Goals as goal

pub returns : goal.returns
returns c = full_means
