use Rattle.pool_core.proofs.Beginning.{opening_conserves}
use Rattle.pool_core.proofs.pool.Pool.new.Goals as goal

pub invariant_of-result : goal.invariant_of-result
invariant_of-result g c =
    let t = g.J.Judge.rules c.args.judge in
    let root = c.args.root in
    rw (c.in_ok-workers.ensures, c.new.ensures.items) (opening_conserves t root c.args.workers c.requires.root)
