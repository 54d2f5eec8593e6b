use Rattle.steal_pool.proofs.Rule.{begins}
use Rattle.steal_pool.proofs.worker.Worker.new.Goals as goal

pub fifo_as-requires : goal.fifo_as-requires
fifo_as-requires g c = begins g.N.Naming.rules
