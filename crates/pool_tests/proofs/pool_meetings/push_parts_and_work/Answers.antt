use Rattle.std.proofs.Common.{rules, slice_set}
use Rattle.steal_pool.specs.Runs.{HasWorked}
use Rattle.steal_pool.proofs.Pooling.{left_all, same_linked, zip_of}
use Rattle.pool_tests.proofs.Seats.{same_first, worked_same}
use Rattle.pool_tests.proofs.pool_meetings.push_parts_and_work.Goals as goal

pub returns-clause-linked : goal.returns-clause-linked
returns-clause-linked g c = λ linked.
    let ss = c.args.seats.now in
    let pushed = slice_set c.args.seats.now 0 c.push_right_parts-pushed.new.seat in
    same_linked pushed c.work_all_seats.new.seats
    (worked_same g.N.Naming.rules pushed c.work_all_seats.new.seats (zip_of (HasWorked g.N.Naming.rules) pushed c.work_all_seats.new.seats (search rules) c.work_all_seats.ensures.worked))
    (same_linked ss pushed (same_first ss c.index-seats-0.result c.push_right_parts-pushed.new.seat c.requires.some c.push_right_parts-pushed.ensures.same) linked)

pub returns-clause-left : goal.returns-clause-left
returns-clause-left g c =
    left_all g.N.Naming.rules (slice_set c.args.seats.now 0 c.push_right_parts-pushed.new.seat) c.work_all_seats.new.seats
    (zip_of (HasWorked g.N.Naming.rules) (slice_set c.args.seats.now 0 c.push_right_parts-pushed.new.seat) c.work_all_seats.new.seats (search rules) c.work_all_seats.ensures.worked)
