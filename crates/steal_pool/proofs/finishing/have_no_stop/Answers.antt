use Rattle.steal_pool.proofs.Stopping.{is_kept, is_none_stopped}
use Rattle.steal_pool.proofs.finishing.have_no_stop.Goals as goal

pub returns-clause-all : goal.returns-clause-all
returns-clause-all g c = is_none_stopped c.args.seats.now c.worst_stop.result c.is_none.result c.worst_stop.ensures c.is_none.ensures

pub returns-clause-some : goal.returns-clause-some
returns-clause-some g c = is_kept c.args.seats.now c.worst_stop.result c.is_none.result c.worst_stop.ensures c.is_none.ensures
