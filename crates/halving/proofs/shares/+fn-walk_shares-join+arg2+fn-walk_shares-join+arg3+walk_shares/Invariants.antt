use Rattle.std.proofs.Common.{length}
use Rattle.halving.proofs.shares.+fn-walk_shares-join+arg2+fn-walk_shares-join+arg3+walk_shares.Given as goal

abbrev pub decreases-join+arg2 : goal.decreases-join+arg2
decreases-join+arg2 g l = length l.left.now

abbrev pub decreases-join+arg3 : goal.decreases-join+arg3
decreases-join+arg3 g l = length l.right.now

abbrev pub decreases-walk_shares : goal.decreases-walk_shares
decreases-walk_shares g l = length l.shares.now
