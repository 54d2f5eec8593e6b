use Rattle.spec_trees.proofs.Ordering.{sorted_is}
use Rattle.spec_trees.proofs.laws.a_stable_sort_puts_in_order.Goals as goal

pub returns : goal.returns
returns c = λ ls sorted up stable. sorted_is ls sorted up stable
