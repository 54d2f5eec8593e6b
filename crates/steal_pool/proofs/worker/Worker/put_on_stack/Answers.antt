use Rattle.std.proofs.Common.{sym, subst}
use Rattle.steal_pool.specs.Workers.{Holder, IsSplit}
use Rattle.steal_pool.proofs.Standing.{more_stands}
use Rattle.steal_pool.proofs.worker.Worker.put_on_stack.Goals as goal

pub invariant_of-self : goal.invariant_of-self
invariant_of-self g c = (
  more_stands g.N.Naming.rules _ _ c.args.left c.args.right c.self.invariant.0 c.requires.sound
      (subst (λ (w : Holder). IsSplit g.N.Naming.rules w c.args.left c.args.right) (sym c.self.view_is) c.requires.split)
      c.in-Ok.ensures.items,
  c.self.invariant.1,
  c.self.invariant.2,
  c.self.invariant.3,
  c.self.invariant.4,
)
