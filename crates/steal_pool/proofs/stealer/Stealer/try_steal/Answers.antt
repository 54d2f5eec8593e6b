use Rattle.std.proofs.Common.{arith}
use Rattle.steal_pool.proofs.Rule.{takes}
use Rattle.steal_pool.proofs.stealer.Stealer.try_steal.Goals as goal

pub steal_as-requires-clause-takes : goal.steal_as-requires-clause-takes
steal_as-requires-clause-takes g c = takes _ _ _ (omega (arith, c.self.invariant.2))
