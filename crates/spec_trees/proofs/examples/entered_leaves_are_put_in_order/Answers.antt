use Rattle.std.proofs.Common.{refl}
use Rattle.spec_trees.specs.Order.{inserted, in_order}
use Rattle.spec_trees.proofs.examples.entered_leaves_are_put_in_order.Goals as goal

pub returns : goal.returns
unfolding in_order inserted
returns c = refl
