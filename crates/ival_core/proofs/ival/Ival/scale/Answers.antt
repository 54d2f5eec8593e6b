use Rattle.std.proofs.Common.{arith}
use Rattle.std.proofs.lemmas.Int.{ints, to_z-of_z}
use Rattle.spec_intervals.proofs.Rules.{Holds-scale}
use Rattle.ival_core.proofs.ival.Ival.scale.Goals as goal

pub returns-clause-holds : goal.returns-clause-holds
returns-clause-holds c r h =
    let l = c.ranges.lo in
    let u = c.ranges.hi in
    let s = c.ranges.s in
    let n = c.ranges.seconds in
    rw (simp to_z-of_z at c.scale_ends.ensures) (Holds-scale c.args.lo c.args.hi c.args.s _ r (let p = c.requires.length in omega (arith, ints)) h)
