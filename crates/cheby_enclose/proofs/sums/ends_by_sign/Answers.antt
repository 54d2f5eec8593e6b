use Rattle.std.proofs.Common.{◌≡◌, ◌^◌, ◌<◌, arith, ℤ, unsigned_abs, to_z, of_z, w64}
use Rattle.std.proofs.lemmas.Int.{ints, to_z-of_z}
use Rattle.cheby_enclose.proofs.OneSign.{products_above, products_below}
use Rattle.cheby_enclose.proofs.sums.ends_by_sign.Goals as goal

passed : (z : ℤ) → unsigned_abs z < 2 ^ 63 → to_z w64 (of_z w64 z) ≡ z
passed z h = to_z-of_z w64 z (omega (arith, ints))

pub returns-then-c-lt0 : goal.returns-then-c-lt0
returns-then-c-lt0 c =
    let p = c.requires.pair in
    let is = products_below c.args.c.lo c.args.c.hi c.args.e.lo c.args.e.hi p.ordered c.requires.ordered (p.one_sign (omega (arith, ints, c.if-c-lt0.true))) in
    rw (passed c.args.e.lo c.requires.lo_fits, passed c.args.e.hi c.requires.hi_fits) (record { lesser = is.0; greater = is.1 })

pub returns-else-c-lt0 : goal.returns-else-c-lt0
returns-else-c-lt0 c =
    let p = c.requires.pair in
    let is = products_above c.args.c.lo c.args.c.hi c.args.e.lo c.args.e.hi p.ordered c.requires.ordered (omega (arith, ints, c.if-c-lt0.false)) in
    rw (passed c.args.e.lo c.requires.lo_fits, passed c.args.e.hi c.requires.hi_fits) (record { lesser = is.0; greater = is.1 })
