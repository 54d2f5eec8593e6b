use Rattle.std.proofs.Common.{sym, subst}
use Rattle.steal_pool.specs.Runs.{AreFree}
use Rattle.steal_pool.proofs.Returning.{begin_free}
use Rattle.pool_tests.proofs.pool_seats.make_and_hand_over_between_all_pairs.Goals as goal

pub hand_over_between_all_pairs-requires-clause-free : goal.hand_over_between_all_pairs-requires-clause-free
hand_over_between_all_pairs-requires-clause-free g c =
    subst AreFree (sym c.as_mut_slice.ensures.value) (begin_free _ c.root_node-root.result c.in_ok-seats.seats.items c.in_ok-seats.ensures.begin)
