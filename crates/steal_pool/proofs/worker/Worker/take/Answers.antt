use Rattle.steal_pool.proofs.Taking.{reopened_taken}
use Rattle.steal_pool.proofs.worker.Worker.take.Goals as goal

pub returns : goal.returns
returns g c = record { taken = reopened_taken c.take_in_order.result c.args.self.now c.reopen_deque.new.self c.take_in_order.new.self c.in_default.ensures.taken c.take_in_order.ensures.taken; few = c.take_in_order.ensures.few }
