use Rattle.spec_meanings.proofs.DiscMeanings.{overlap_means}
use Rattle.spec_meanings.proofs.laws.any_occultation_is_a_common_ray.Goals as goal

pub returns : goal.returns
returns c = overlap_means
