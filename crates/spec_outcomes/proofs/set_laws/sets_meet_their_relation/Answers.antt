use Rattle.spec_outcomes.proofs.SetSigns.{sets_by_signs_meet}
use Rattle.spec_outcomes.proofs.set_laws.sets_meet_their_relation.Goals as goal

pub returns : goal.returns
returns c = sets_by_signs_meet
