use Rattle.spec_trees.specs.Tree.{width}
use Rattle.still_judge.proofs.span_judge.StillJudge.+lies_in_clear_leaf.Given as goal

abbrev pub decreases-lies_in_clear_leaf : goal.decreases-lies_in_clear_leaf
decreases-lies_in_clear_leaf g l = width l.at
