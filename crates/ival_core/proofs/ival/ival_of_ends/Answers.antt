use Rattle.std.proofs.Common.{arith}
use Rattle.std.proofs.lemmas.Int.{ints, to_z-of_z}
use Rattle.ival_core.proofs.Settling.{settled-zero, settled-other}
use Rattle.ival_core.proofs.ival.ival_of_ends.Goals as goal

pub returns-then-hi-eq0 : goal.returns-then-hi-eq0
returns-then-hi-eq0 c =
    let l = c.ranges.lo in
    let h = c.ranges.hi in
    simp to_z-of_z (settled-zero c.args.lo c.args.hi c.args.s (omega (arith, ints)) (omega (arith, ints)))

pub returns-else-lo-eq0 : goal.returns-else-lo-eq0
returns-else-lo-eq0 c =
    let l = c.ranges.lo in
    let h = c.ranges.hi in
    let s = c.ranges.s in
    simp to_z-of_z (settled-other c.args.lo c.args.hi c.args.s (λ p q. grind (arith, ints, c.else-lo-eq0.either)))
