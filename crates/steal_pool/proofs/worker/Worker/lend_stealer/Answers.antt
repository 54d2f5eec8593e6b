use Rattle.steal_pool.proofs.Rule.{forks}
use Rattle.steal_pool.proofs.worker.Worker.lend_stealer.Goals as goal

pub another-pass-requires : goal.another-pass-requires
another-pass-requires g c = forks _ _ _ c.self.invariant.1
