use Rattle.std.proofs.Common.{◌≡◌, ◌++◌, drop, None}
use Rattle.spec_trees.specs.Runs.{joined}
use Rattle.ordered_join.proofs.joining.leaf_windows.Given as goal

abbrev pub invariant-loop-leaf : goal.invariant-loop-leaf
invariant-loop-leaf l = joined None l.leaves ≡ l.found.items ++ joined l.run (drop l.leaf-index l.leaves)
