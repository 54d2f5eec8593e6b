use Rattle.spec_stills.proofs.Counting.{enough_below}
use Rattle.spec_stills.proofs.ServedTrees.{enough_below_served}
use Rattle.spec_stills.proofs.weight_laws.the_tree_has_no_more_leaves_than_lie_below.Goals as goal

pub returns-clause-eager : goal.returns-clause-eager
returns-clause-eager c = λ s xs root is valid. enough_below s xs is root valid

pub returns-clause-served : goal.returns-clause-served
returns-clause-served c = λ s xs root is stills valid. enough_below_served s xs is stills root valid
