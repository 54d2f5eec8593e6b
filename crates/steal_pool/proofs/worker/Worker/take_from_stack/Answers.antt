use Rattle.steal_pool.proofs.Standing.{kept_stands}
use Rattle.steal_pool.proofs.worker.Worker.take_from_stack.Goals as goal

pub invariant_of-self : goal.invariant_of-self
invariant_of-self g c = (
  kept_stands g.N.Naming.rules _ _ _ c.self.invariant.0 c.in-Some.ensures.items,
  c.self.invariant.1,
  c.self.invariant.2,
  c.self.invariant.3,
  c.self.invariant.4,
)
