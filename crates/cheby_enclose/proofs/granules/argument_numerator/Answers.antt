use Rattle.std.proofs.Common.{◌≤◌, ◌^◌, arith, pos, w64, FitsSigned, ◌-ℤ◌, ◌*ℤ◌, ℤ, unsigned_abs}
use Rattle.std.proofs.lemmas.Int.{ints, to_z-of_z}
use mir.Val.{SFits}
use Rattle.cheby_enclose.proofs.granules.argument_numerator.Goals as goal

fits : (z : ℤ) → unsigned_abs z ≤ 2 ^ 42 → FitsSigned w64 z
fits z h = omega (arith, ints)

pub returns-clause-equals : goal.returns-clause-equals
returns-clause-equals c =
    let t = c.ranges.t in
    let s = c.ranges.start in
    let n = c.ranges.seconds in
    let p = c.requires.long in
    let q = c.requires.short in
    let from = c.requires.from in
    let upto = c.requires.upto in
    let a : SFits w64 (c.args.t -ℤ c.args.start) = fits (c.args.t -ℤ c.args.start) (omega (arith, ints)) in
    let b : SFits w64 (pos 2 *ℤ (c.args.t -ℤ c.args.start)) = fits (pos 2 *ℤ (c.args.t -ℤ c.args.start)) (omega (arith, ints)) in
    let d : SFits w64 (pos 2 *ℤ (c.args.t -ℤ c.args.start) -ℤ c.args.seconds) = fits (pos 2 *ℤ (c.args.t -ℤ c.args.start) -ℤ c.args.seconds) (omega (arith, ints)) in
    simp to_z-of_z
