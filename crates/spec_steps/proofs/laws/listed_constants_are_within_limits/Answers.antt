use Rattle.spec_steps.proofs.Parts.{cosine_kept, length_kept}
use Rattle.spec_steps.proofs.laws.listed_constants_are_within_limits.Goals as goal

pub returns : goal.returns
returns c = record { lengths = length_kept; cosines = cosine_kept }
