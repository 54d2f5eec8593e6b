use Rattle.steal_pool.proofs.Ending.{ended, joined_left}
use Rattle.steal_pool.proofs.finishing.end_work.Goals as goal

pub drain_deques-requires-clause-left : goal.drain_deques-requires-clause-left
drain_deques-requires-clause-left g c κs within = joined_left g.N.Naming.rules c.args.seats.now c.join_all_stealers.new.seats c.join_all_stealers.ensures.joined c.requires.left

pub returns : goal.returns
returns g c = ended g.N.Naming.rules c.args.seats.now c.join_all_stealers.new.seats c.drain_deques.new.seats c.join_all_stealers.ensures.joined c.join_all_stealers.ensures.linked c.join_all_stealers.ensures.none c.drain_deques.ensures
