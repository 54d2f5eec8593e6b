-- Limits and ends in 64 bits.
use Rattle.std.proofs.Common.{◌≡◌, ℕ, ◌^◌, ◌≤◌, arith, pos, ◌-ℤ◌, neg_ℤ, w64, to_z, of_z}
use Rattle.std.proofs.lemmas.Int.{ints, to_z-of_z, to_z_pos}
use mir.Val.{SFits}

pub limit_is : (limit : ℕ) → limit ≤ 2 ^ 60 → to_z w64 limit ≡ pos limit
limit_is limit h = to_z_pos w64 limit (omega arith)

pub negated_limit : (limit : ℕ) → limit ≤ 2 ^ 60 → to_z w64 (of_z w64 (pos 0 -ℤ to_z w64 limit)) ≡ neg_ℤ (pos limit)
negated_limit limit h =
    let f : SFits w64 (neg_ℤ (pos limit)) = omega (arith, ints) in
    let e : pos 0 -ℤ pos limit ≡ neg_ℤ (pos limit) = omega (arith, ints) in
    rw (limit_is limit h, e) (to_z-of_z w64 (neg_ℤ (pos limit)) f)
