use Rattle.spec_trees.proofs.Ordering.{cover_in_order}
use Rattle.spec_trees.proofs.laws.a_cover_is_in_order.Goals as goal

pub returns : goal.returns
returns c = λ a b ls h. cover_in_order a b ls h
