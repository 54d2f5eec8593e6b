use Rattle.std.proofs.Common.{refl}
use Rattle.spec_trees.specs.Tree.{leaves_within, leaves}
use Rattle.spec_trees.proofs.examples.three_units_have_three_leaves.Goals as goal

pub returns : goal.returns
unfolding leaves leaves_within
returns c = refl
