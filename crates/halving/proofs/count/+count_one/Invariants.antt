use Rattle.spec_trees.specs.Tree.{width}
use Rattle.halving.proofs.count.+count_one.Given as goal

abbrev pub decreases-count_one : goal.decreases-count_one
decreases-count_one g l = width l.root
