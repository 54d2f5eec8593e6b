use Rattle.std.proofs.Common.{rules}
use Rattle.steal_pool.specs.Runs.{HasWorked}
use Rattle.steal_pool.proofs.Pooling.{zip_of}
use Rattle.steal_pool.proofs.running.work_with_last_here.Goals as goal

pub returns : goal.returns
returns g c = record { worked = zip_of (HasWorked g.N.Naming.rules) c.args.seats.now c.for_each_mut.new.s (search rules) (λ k d below. search rules) }
