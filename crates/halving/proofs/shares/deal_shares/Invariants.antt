use Rattle.std.proofs.Common.{◌≡◌, ◌-◌, ◌<◌, ◌≤◌, length}
use Rattle.spec_trees.specs.Tree.{leaves}
use Rattle.halving.specs.Shares.{AreJudged, leaves_of}
use Rattle.halving.proofs.shares.deal_shares.Given as goal

abbrev pub invariant-loop-shares : goal.invariant-loop-shares
invariant-loop-shares g l = record {
  judged : AreJudged (g.J.Judge.rules l.judge) l.shares.items;
  leaves : leaves_of (g.J.Judge.rules l.judge) l.shares.items ≡ leaves (g.J.Judge.rules l.judge) l.fn.root;
  some : 0 < length l.shares.items;
  most : length l.shares.items ≤ l.workers;
}

abbrev pub decreases-loop-shares : goal.decreases-loop-shares
decreases-loop-shares g l = l.workers - length l.shares.items
