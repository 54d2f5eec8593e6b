use Rattle.std.proofs.Common.{refl}
use Rattle.spec_trees.specs.Tree.{leaves_within, leaves}
use Rattle.spec_trees.proofs.cut_examples.eight_units_are_cut_into_leaves.Goals as goal

pub returns : goal.returns
unfolding leaves leaves_within
returns c = record { by_half = refl; by_third = refl }
