use Rattle.spec_events.specs.Events.{Passes}
use Rattle.spec_sets.proofs.Sets.{sets_of_true_signs}
use Rattle.spec_sets.proofs.laws.true_signs_give_sets.Goals as goal

pub returns : goal.returns
returns c = λ p. sets_of_true_signs (Passes p)
