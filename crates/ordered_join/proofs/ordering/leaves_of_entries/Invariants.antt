use Rattle.std.proofs.Common.{◌≡◌, take}
use Rattle.spec_trees.specs.Order.{booked_leaves}
use Rattle.ordered_join.proofs.ordering.leaves_of_entries.Given as goal

abbrev pub invariant-loop-entry : goal.invariant-loop-entry
invariant-loop-entry l = l.leaves.items ≡ booked_leaves (take l.entry-index l.entries)
