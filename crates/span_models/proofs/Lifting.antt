-- Numbers in a finer unit.
use Rattle.std.proofs.Common.{◌≡◌, ◌∙◌, ℕ, ◌*◌, ◌%◌, ◌^◌, ◌<◌, ◌≤◌, ◌⊎◌, inl, inr, arith, ap, ℤ, pos, ◌*ℤ◌, unsigned_abs, to_z, of_z, w64}
use Rattle.std.proofs.lemmas.Int.{ints, to_z_pos, unsigned_abs-mul, fits_signed_from_abs}
use Rattle.std.proofs.lemmas.Nat.{one_shl, mul-le}
use Rattle.std.proofs.lemmas.Bool.{cases_lt}
use Rattle.std.proofs.Math.Nat.{pow-le-pow_right}
use mir.Syntax.{w128}
use mir.Val.{SFits}

pub lead_below : (size r : ℕ) → size < 2 ^ 58 → 2 ^ r ≤ size → r ≤ 58
lead_below size r h p = by (cases_lt 58 r)
  where
    by : (58 < r) ⊎ (r ≤ 58) → r ≤ 58
    by (inl q) = let f : 58 ≤ r = omega (arith, q) in let w : 2 ^ 58 ≤ 2 ^ r = pow-le-pow_right (omega arith) f in absurd (omega arith)
    by (inr q) = q

-- 2^j, as the code makes it
pub one_lifted : (j : ℕ) → j ≤ 58 → to_z w128 (1 * 2 ^ (j % 64) % 2 ^ 128) ≡ pos (2 ^ j)
one_lifted j h =
    let same : j % 64 ≡ j = omega (arith, h) in
    let e : (1 * 2 ^ j) % 2 ^ 128 ≡ 2 ^ j = one_shl j 128 (omega (arith, h)) in
    let b : 2 ^ j ≤ 2 ^ 58 = pow-le-pow_right (omega arith) h in
    ap (λ n. to_z w128 (1 * 2 ^ n % 2 ^ 128)) same ∙ ap (to_z w128) e ∙ to_z_pos w128 (2 ^ j) (omega arith)

pub lifted_fits : (z : ℤ) (j : ℕ) → j ≤ 58 → unsigned_abs z ≤ 2 ^ 63 → SFits w128 (pos (2 ^ j) *ℤ z)
lifted_fits z j h s =
    let b : 2 ^ j ≤ 2 ^ 58 = pow-le-pow_right (omega arith) h in
    let e : unsigned_abs (pos (2 ^ j) *ℤ z) ≡ 2 ^ j * unsigned_abs z = unsigned_abs-mul (pos (2 ^ j)) z in
    let p : 2 ^ j * unsigned_abs z ≤ 2 ^ 58 * 2 ^ 63 = mul-le (2 ^ j) (unsigned_abs z) (2 ^ 58) (2 ^ 63) b s in
    fits_signed_from_abs w128 (pos (2 ^ j) *ℤ z) (omega (arith, e, p))

-- a number of 64 bits, made one of 128
pub widened_number : (z : ℤ) → SFits w64 z → to_z w128 (of_z w128 (to_z w64 (of_z w64 z))) ≡ z
widened_number z f = omega (arith, ints)

pub number_size : (z : ℤ) → SFits w64 z → unsigned_abs z ≤ 2 ^ 63
number_size z f = omega (arith, ints)
