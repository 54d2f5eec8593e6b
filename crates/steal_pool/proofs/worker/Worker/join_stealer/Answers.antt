use Rattle.std.proofs.Common.{arith, ap}
use Rattle.steal_pool.proofs.Rule.{merges}
use Rattle.steal_pool.proofs.worker.Worker.join_stealer.Goals as goal

pub absorb-requires-clause-rule : goal.absorb-requires-clause-rule
absorb-requires-clause-rule g c = merges _ _ _ _ _ c.self.invariant.1 c.stealer.invariant.1 c.stealer.invariant.2
    (omega (arith, c.requires.made, ap (λ w. w.own.view.made) c.self.view_is))
