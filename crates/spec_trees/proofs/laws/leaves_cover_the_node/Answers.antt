use Rattle.spec_trees.proofs.Covering.{leaves_cover, leaves_are}
use Rattle.spec_trees.proofs.laws.leaves_cover_the_node.Goals as goal

pub returns-clause-cover : goal.returns-clause-cover
returns-clause-cover c = λ t n s v. leaves_cover t s n v

pub returns-clause-are_leaves : goal.returns-clause-are_leaves
returns-clause-are_leaves c = λ t n s v. leaves_are t s n v
