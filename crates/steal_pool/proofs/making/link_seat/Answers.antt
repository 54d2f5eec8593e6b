use Rattle.std.proofs.Common.{arith}
use Rattle.steal_pool.proofs.Beginning.{linking_more, linking_next}
use Rattle.steal_pool.proofs.making.link_seat.Goals as goal

pub loop-j-preserved : goal.loop-j-preserved
loop-j-preserved g c = record { linking = linking_more _ _ _ _ _ _ _ c.loop-j.invariant.linking c.in_ok-link_unless_same.ensures.links }

pub returns : goal.returns
returns g c = record { linking = linking_next _ _ _ _ _ _ (omega (arith, c.loop-j-test.false)) c.loop-j.invariant.linking }
