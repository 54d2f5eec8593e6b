use Rattle.steal_pool.proofs.Taking.{in_order_taken}
use Rattle.steal_pool.proofs.worker.Worker.take_in_order.Goals as goal

pub returns : goal.returns
returns g c = record { taken = in_order_taken c.steal_from_others.result c.args.self.now c.take_from_stack.new.self c.take_from_own_deque.new.self c.steal_from_others.new.self c.in_default.ensures.taken c.in_default-take_from_own_deque.ensures.taken c.steal_from_others.ensures.taken; few = c.steal_from_others.ensures.few }
