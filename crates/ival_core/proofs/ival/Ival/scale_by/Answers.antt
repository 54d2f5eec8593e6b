use Rattle.std.proofs.lemmas.Int.{to_z-of_z}
use Rattle.spec_intervals.proofs.Rules.{Holds-scale}
use Rattle.ival_core.proofs.ival.Ival.scale_by.Goals as goal

pub returns-clause-holds : goal.returns-clause-holds
returns-clause-holds c r h =
    let l = c.ranges.lo in
    let u = c.ranges.hi in
    let s = c.ranges.s in
    rw (simp to_z-of_z at c.scale_ends_by.ensures.equals) (Holds-scale c.args.lo c.args.hi c.args.s _ r c.scale_ends_by.ensures.positive h)
