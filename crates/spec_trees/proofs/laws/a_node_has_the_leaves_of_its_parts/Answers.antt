use Rattle.spec_trees.proofs.Leaves.{leaves_settled, leaves_split}
use Rattle.spec_trees.proofs.laws.a_node_has_the_leaves_of_its_parts.Goals as goal

pub returns-clause-settled : goal.returns-clause-settled
returns-clause-settled c = λ t n m s v e. leaves_settled t s n v m e

pub returns-clause-split : goal.returns-clause-split
returns-clause-split c = λ t n s v e. leaves_split t s n v e
