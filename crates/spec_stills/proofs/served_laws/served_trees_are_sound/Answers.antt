use Rattle.spec_stills.proofs.ServedTrees.{served_sound, valid_served}
use Rattle.spec_stills.proofs.served_laws.served_trees_are_sound.Goals as goal

pub returns-clause-sound : goal.returns-clause-sound
returns-clause-sound c = λ s xs is. served_sound s xs is

pub returns-clause-nodes : goal.returns-clause-nodes
returns-clause-nodes c = λ s xs n valid. valid_served s xs n valid
