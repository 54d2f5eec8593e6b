use Rattle.steal_pool.specs.Runs.{AreFree}
use Rattle.pool_tests.proofs.pool_seats.hand_over_between_all_pairs.Given as goal

abbrev pub invariant-loop-owner : goal.invariant-loop-owner
invariant-loop-owner g l = AreFree l.seats
