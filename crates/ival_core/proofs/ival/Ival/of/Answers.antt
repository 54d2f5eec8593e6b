use Rattle.std.proofs.lemmas.Int.{to_z-of_z}
use Rattle.spec_intervals.proofs.Holding.{Holds-narrowed}
use Rattle.ival_core.proofs.ival.Ival.of.Goals as goal

pub returns-clause-holds : goal.returns-clause-holds
returns-clause-holds c r h =
    let l = c.ranges.lo in
    let u = c.ranges.hi in
    let s = c.ranges.s in
    rw (simp to_z-of_z at c.normalize_any_ends.ensures) (Holds-narrowed c.args.lo c.args.hi c.args.s r h)
