use Rattle.std.proofs.Common.{◌≡◌, ◌^◌, ◌<◌, ◌≤◌, ℤ, pos, neg_ℤ, ◌-ℤ◌, unsigned_abs, to_z, of_z, w64, arith}
use Rattle.std.proofs.lemmas.Int.{ints, to_z-of_z}
use mir.Syntax.{w128}
use mir.Val.{SFits}
use Rattle.spec_numbers.specs.Numbers.{floor_div}
use Rattle.spec_numbers.proofs.Sizes.{unsigned_abs-neg}
use Rattle.ival_core.proofs.Shifts.{small_fits}
use Rattle.ival_core.proofs.ends.shifted_high_end.Goals as goal

negated_once : (z : ℤ) → SFits w128 z → unsigned_abs z < 2 ^ 127 → to_z w128 (of_z w128 (pos 0 -ℤ to_z w128 (of_z w128 z))) ≡ neg_ℤ z
negated_once z f h = omega (arith, ints)

negated_back : (q : ℤ) → unsigned_abs q ≤ 2 ^ 62 → to_z w64 (of_z w64 (pos 0 -ℤ to_z w64 (of_z w64 q))) ≡ neg_ℤ q
negated_back q h = omega (arith, ints)

pub returns : goal.returns
returns c =
    let q : ℤ = floor_div (neg_ℤ c.args.z) (2 ^ c.args.k) in
    let small : unsigned_abs q ≤ 2 ^ 62 = rw (unsigned_abs-neg q) at c.requires.small in
    rw (negated_once c.args.z c.ranges.z c.requires.above_least, to_z-of_z w128 q (small_fits q small)) (negated_back q small)
