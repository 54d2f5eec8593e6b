use Rattle.std.proofs.Common.{refl}
use Rattle.spec_trees.specs.Tree.{leaves_within, leaves}
use Rattle.pool_core.proofs.examples.four_leaves_take_ten_steps.Goals as goal

pub returns : goal.returns
unfolding leaves leaves_within
returns c = record { leaves = refl; todo = refl }
