-- By which rules the nodes of a test's pool are valid.
use Rattle.spec_trees.specs.declared.tree.Node.{Node}
use Rattle.spec_trees.specs.Tree.{Rules}
use Rattle.steal_pool.specs.Seats.{IsNamed}

-- those of the judge, within some root
abbrev pub AreNamed : Rules → Rules → Type 0
AreNamed t r = (root : Node) × IsNamed t r root
