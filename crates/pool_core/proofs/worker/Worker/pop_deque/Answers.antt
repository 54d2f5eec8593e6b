use Rattle.std.proofs.Common.{refl}
use Rattle.pool_core.specs.States.{holding}
use Rattle.pool_core.proofs.worker.Worker.pop_deque.Goals as goal

pub returns-in_default-clause-refused : goal.returns-in_default-clause-refused
returns-in_default-clause-refused c = λ y pops.
    let x = c.args.self.now in
    c.in_default.ensures.none pops.node (holding x.hand pops.rest x.kept) (record { rest = pops.rest; front = pops.front; after = refl })
