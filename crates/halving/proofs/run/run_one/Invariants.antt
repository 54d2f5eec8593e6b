use Rattle.std.proofs.Common.{◌≡◌, ◌≤◌, ◌++◌, length}
use Rattle.spec_trees.specs.Tree.{leaves}
use Rattle.halving.specs.Pending.{pending, AllValid, weight}
use Rattle.halving.proofs.run.run_one.Given as goal

abbrev pub invariant-loop-node : goal.invariant-loop-node
invariant-loop-node g l = record {
  valid : AllValid (g.J.Judge.rules l.judge) l.waiting.items;
  joined : leaves (g.J.Judge.rules l.judge) l.fn.root ≡ l.found.items ++ pending (g.J.Judge.rules l.judge) l.waiting.items;
  few : length l.found.items ≤ l.limit;
}

abbrev pub decreases-loop-node : goal.decreases-loop-node
decreases-loop-node g l = weight l.waiting.items
