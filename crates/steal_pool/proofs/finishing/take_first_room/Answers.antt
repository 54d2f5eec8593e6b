use Rattle.steal_pool.proofs.Pooling.{first_roomless}
use Rattle.steal_pool.proofs.finishing.take_first_room.Goals as goal

pub returns-clause-seats : goal.returns-clause-seats
returns-clause-seats g c = first_roomless c.args.seats.now c.index-seats-0.result c.take_room.new.self c.take_room.ensures.seat
