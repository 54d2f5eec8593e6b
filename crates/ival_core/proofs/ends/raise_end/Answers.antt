use Rattle.std.proofs.Common.{◌≡◌, ◌%◌, arith}
use Rattle.std.proofs.lemmas.Int.{to_z-of_z}
use Rattle.ival_core.proofs.Shifts.{one_shifted, lift_bound, lift_fits, small_fits}
use Rattle.ival_core.proofs.ends.raise_end.Goals as goal

pub overflow_mul-result : goal.overflow_mul-result
overflow_mul-result c =
    let z = c.ranges.z in
    let w = small_fits c.args.z c.requires.small in
    let e : c.args.m % 64 ≡ c.args.m = (let h = c.requires.within in omega arith) in
    rw (e, one_shifted c.args.m c.requires.within) (simp to_z-of_z (lift_fits c.args.z c.args.m c.requires.small c.requires.within))

pub returns : goal.returns
returns c =
    let z = c.ranges.z in
    let w = small_fits c.args.z c.requires.small in
    let f = lift_fits c.args.z c.args.m c.requires.small c.requires.within in
    let e : c.args.m % 64 ≡ c.args.m = (let h = c.requires.within in omega arith) in
    rw (e, one_shifted c.args.m c.requires.within) (record { equals = simp to_z-of_z; bound = simp to_z-of_z (lift_bound c.args.z c.args.m c.requires.small c.requires.within) })
