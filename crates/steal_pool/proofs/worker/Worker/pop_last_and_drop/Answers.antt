use Rattle.std.proofs.Common.{subst}
use Rattle.steal_pool.specs.Rule.{HasLeft}
use Rattle.steal_pool.specs.Workers.{Holder}
use Rattle.steal_pool.proofs.Rule.{finds, owner_takes, pop_left}
use Rattle.steal_pool.proofs.worker.Worker.pop_last_and_drop.Goals as goal

pub pop_as-left-requires-clause-fifo : goal.pop_as-left-requires-clause-fifo
pop_as-left-requires-clause-fifo g c = λ _. owner_takes _ _ _ c.self.invariant.1

pub pop_as-left-requires-clause-empty : goal.pop_as-left-requires-clause-empty
pop_as-left-requires-clause-empty g c = finds _ _ _ c.self.invariant.1

pub returns : goal.returns
returns g c = subst (λ (w : Holder). HasLeft w.own.view) c.self.view_is (pop_left g.N.Naming.rules c.pop_as-left.result _ _ c.pop_as-left.ensures.rule)
