use Rattle.spec_trees.proofs.Placing.{windows_within, windows_in_order}
use Rattle.spec_trees.proofs.Covering.{all_have_time}
use Rattle.ordered_join.proofs.ordering.windows.Goals as goal

pub leaf_windows-requires : goal.leaf_windows-requires
leaf_windows-requires c =
    rw (c.deref.ensures.value) (all_have_time c.args.book.now.root.a c.args.book.now.root.b _ c.in_ok-leaves.ensures.cover)

pub returns-clause-within : goal.returns-clause-within
returns-clause-within c =
    rw (c.in_ok-found.ensures, c.deref.ensures.value) (windows_within c.args.book.now.root.a c.args.book.now.root.b _ c.in_ok-leaves.ensures.cover)

pub returns-clause-in_order : goal.returns-clause-in_order
returns-clause-in_order c =
    rw (c.in_ok-found.ensures, c.deref.ensures.value) (windows_in_order c.args.book.now.root.a c.args.book.now.root.b _ c.in_ok-leaves.ensures.cover)
