use Rattle.spec_stills.proofs.ServedTrees.{served_tell_the_same}
use Rattle.spec_stills.proofs.served_laws.served_trees_tell_the_same.Goals as goal

pub returns : goal.returns
returns c = λ s xs root is stills valid. served_tell_the_same s xs is stills root valid
