use Rattle.std.proofs.Common.{List, sym, subst}
use Rattle.steal_pool.specs.Pools.{AllBegin}
use Rattle.steal_pool.specs.Seats.{Seat}
use Rattle.steal_pool.proofs.Returning.{begin_free}
use Rattle.pool_tests.proofs.pool_meetings.seats_leave_nothing_to_finish.Goals as goal

pub push_parts_and_work-pushed-requires-clause-free : goal.push_parts_and_work-pushed-requires-clause-free
push_parts_and_work-pushed-requires-clause-free g c κs within =
    begin_free c.args.ledger.now c.root_node-root.result c.as_mut_slice.result.now
    (subst (λ (ss : List Seat). AllBegin c.args.ledger.now c.root_node-root.result ss) (sym c.as_mut_slice.ensures.value) c.in-Ok.ensures.begin)
