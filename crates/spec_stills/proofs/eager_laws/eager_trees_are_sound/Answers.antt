use Rattle.spec_stills.proofs.Sound.{eager_sound, valid_eager}
use Rattle.spec_stills.proofs.eager_laws.eager_trees_are_sound.Goals as goal

pub returns-clause-sound : goal.returns-clause-sound
returns-clause-sound c = λ s xs is. eager_sound s xs is

pub returns-clause-nodes : goal.returns-clause-nodes
returns-clause-nodes c = λ s xs n valid. valid_eager s xs n valid
