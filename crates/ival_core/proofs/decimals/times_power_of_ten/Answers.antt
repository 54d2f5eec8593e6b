use Rattle.std.proofs.Common.{arith, ◌≡◌, ◌∙◌, ◌^◌, to_z, pos, min, ap}
use Rattle.std.proofs.lemmas.Int.{to_z-of_z, to_z_pos}
use mir.Syntax.{w128}
use Rattle.ival_core.proofs.Powers.{times_capped, times_fits, ten_wide}
use Rattle.ival_core.proofs.decimals.times_power_of_ten.Goals as goal
use Rattle.ival_core.proofs.decimals.times_power_of_ten.Goals.{After-power_of_ten}

power_is : (c : After-power_of_ten) → to_z w128 c.power_of_ten.result ≡ pos (10 ^ c.min.result)
power_is c =
    let e : c.power_of_ten.result ≡ 10 ^ c.min.result = c.power_of_ten.ensures in
    let m : c.min.result ≡ min c.args.n 18 = c.min.ensures in
    ap (to_z w128) e ∙ to_z_pos w128 (10 ^ c.min.result) (ten_wide c.min.result (omega arith))

pub overflow_mul-result : goal.overflow_mul-result
overflow_mul-result c =
    let z = c.ranges.z in
    rw (power_is (goal.at.overflow_mul-result c).After-power_of_ten) (simp to_z-of_z (times_fits c.args.z c.args.n c.min.result c.min.ensures c.requires))

pub returns : goal.returns
returns c =
    let z = c.ranges.z in
    let f = times_fits c.args.z c.args.n c.min.result c.min.ensures c.requires in
    rw (power_is (goal.at.returns c).After-power_of_ten) (simp to_z-of_z (times_capped c.args.z c.args.n c.min.result c.min.ensures c.requires))
