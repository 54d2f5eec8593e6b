use Rattle.std.proofs.Common.{slice_set}
use Rattle.steal_pool.proofs.Pooling.{later_more, later_first, left_all}
use Rattle.steal_pool.proofs.running.begin_and_work.Goals as goal

pub returns-clause-later : goal.returns-clause-later
returns-clause-later g c =
    later_more g.N.Naming.rules c.args.seats.now (slice_set c.args.seats.now 0 c.start_with_root.new.self) c.work_with_first_here.new.seats
    (later_first g.N.Naming.rules c.args.seats.now c.index-seats-0.result c.start_with_root.new.self c.requires.some c.start_with_root.ensures.later)
    c.work_with_first_here.ensures.worked

pub returns-clause-left : goal.returns-clause-left
returns-clause-left g c = left_all g.N.Naming.rules (slice_set c.args.seats.now 0 c.start_with_root.new.self) c.work_with_first_here.new.seats c.work_with_first_here.ensures.worked
