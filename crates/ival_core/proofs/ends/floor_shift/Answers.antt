use Rattle.std.proofs.Common.{◌^◌, w64}
use Rattle.std.proofs.lemmas.Int.{to_z-of_z}
use mir.Syntax.{w128}
use mir.Val.{SFits}
use Rattle.spec_numbers.specs.Numbers.{floor_div}
use Rattle.spec_numbers.proofs.Floor.{capped_shift, shift_small}
use Rattle.ival_core.proofs.Shifts.{small_narrow, small_fits}
use Rattle.ival_core.proofs.ends.floor_shift.Goals as goal

pub returns : goal.returns
returns c =
    let z = c.ranges.z in
    let b = shift_small c.args.z c.min.result (2 ^ 62) c.requires in
    let f : SFits w64 (floor_div c.args.z (2 ^ c.min.result)) = small_narrow _ b in
    let g : SFits w128 (floor_div c.args.z (2 ^ c.min.result)) = small_fits _ b in
    record { equals = simp to_z-of_z (capped_shift c.args.z c.args.k c.min.result c.requires c.min.ensures); small = simp to_z-of_z b }
