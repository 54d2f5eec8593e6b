use Rattle.spec_trees.specs.Tree.{width}
use Rattle.still_judge.proofs.span_judge.StillJudge.+first_narrow_ancestor.Given as goal

abbrev pub decreases-first_narrow_ancestor : goal.decreases-first_narrow_ancestor
decreases-first_narrow_ancestor g l = width l.at
