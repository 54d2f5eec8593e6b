use Rattle.std.proofs.Common.{refl}
use Rattle.pool_tests.proofs.pool_seats.hand_over_between_all_pairs.Goals as goal

pub loop-owner-init : goal.loop-owner-init
loop-owner-init g c = c.requires.free

pub hand_node_over-requires-clause-free : goal.hand_node_over-requires-clause-free
hand_node_over-requires-clause-free g c = c.loop-owner.invariant

pub loop-owner-preserved : goal.loop-owner-preserved
loop-owner-preserved g c = c.if-not-hand_node_over.ensures.free refl
