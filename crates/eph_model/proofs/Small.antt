-- Numbers of 64 bits times a small power of ten.
use Rattle.std.proofs.Common.{◌^◌, ◌≤◌, suc, arith, ℤ, pos, negsuc, neg_ℤ, ◌≤ℤ◌, unsigned_abs}
use Rattle.std.proofs.lemmas.Int.{ints}
use Rattle.std.proofs.Math.Nat.{pow-le-pow_right}
use Rattle.spec_intervals.specs.Interval.{IsDistance}

-- from ten to the -9 down they are below 2^36
pub small_below : (mant exp : ℤ) → unsigned_abs mant ≤ 2 ^ 63 → exp ≤ℤ neg_ℤ (pos 9) → IsDistance mant exp
small_below mant (pos n) size low = absurd (omega (arith, ints, low))
small_below mant (negsuc n) size low =
    let less : 9 ≤ suc n = omega (arith, ints, low) in
    let power : 10 ^ 9 ≤ 10 ^ suc n = pow-le-pow_right (omega arith) less in
    omega (arith, size, power)
