use Rattle.std.proofs.Common.{◌^◌, ◌≤◌, arith, unsigned_abs, w64}
use Rattle.std.proofs.Math.Nat.{pow-le-pow_right}
use Rattle.std.proofs.lemmas.Int.{to_z-of_z}
use Rattle.std.proofs.lemmas.Nat.{pow_pos}
use Rattle.spec_numbers.specs.Numbers.{floor_div}
use Rattle.spec_numbers.proofs.Floor.{floor_div-small}
use Rattle.event_models.proofs.Steps.{kept58}
use Rattle.event_models.proofs.starts.floor_shift.Goals as goal

pub returns-clause-small : goal.returns-clause-small
returns-clause-small c =
    let many : 2 ^ 17 ≤ 2 ^ c.args.k = pow-le-pow_right (omega arith) c.requires.many in
    let small = c.requires.small in
    let left : unsigned_abs (floor_div c.args.z (2 ^ c.args.k)) ≤ 2 ^ 44 = floor_div-small c.args.z (2 ^ c.args.k) (2 ^ 44) (pow_pos c.args.k) (omega (arith, small, many)) in
    rw (to_z-of_z w64 c.args.z c.ranges.z, kept58 (floor_div c.args.z (2 ^ c.args.k)) (omega (arith, left))) left
