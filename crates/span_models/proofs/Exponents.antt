-- Exponents that are passed from call to call.
use Rattle.std.proofs.Common.{◌≡◌, ◌^◌, ◌≤◌, ℕ, arith, ℤ, pos, ◌+ℤ◌, ◌-ℤ◌, unsigned_abs, to_z, of_z, w32}
use Rattle.std.proofs.lemmas.Int.{ints}

pub exponents_added : (a b x y : ℤ) → a ≡ x → b ≡ y → unsigned_abs x ≤ 2 ^ 20 → unsigned_abs y ≤ 2 ^ 20 → to_z w32 (of_z w32 (to_z w32 (of_z w32 a) +ℤ to_z w32 (of_z w32 b))) ≡ x +ℤ y
exponents_added a b x y e f p q = omega (arith, ints)

pub exponent_kept : (a x : ℤ) → a ≡ x → unsigned_abs x ≤ 2 ^ 20 → to_z w32 (of_z w32 a) ≡ x
exponent_kept a x e p = omega (arith, ints)

pub gap_kept : (a b d x y : ℤ) (k : ℕ) → a ≡ x → b ≡ y → d ≡ y → unsigned_abs x ≤ 2 ^ 20 → unsigned_abs y ≤ 2 ^ 20 → to_z w32 (of_z w32 a) +ℤ pos k ≡ to_z w32 (of_z w32 b) → x +ℤ pos k ≡ to_z w32 (of_z w32 d)
gap_kept a b d x y k ea eb ed p q h = omega (arith, ints)

pub exponent_lowered : (a : ℤ) (k : ℕ) → unsigned_abs a ≤ 2 ^ 20 → k ≤ 58 → to_z w32 (of_z w32 (to_z w32 (of_z w32 a) -ℤ to_z w32 k)) ≡ a -ℤ pos k
exponent_lowered a k p h = omega (arith, ints)

-- the sum of two exponents and how far a third is above it
pub gap_above : (a b d x y z : ℤ) (k : ℕ) → a ≡ x → b ≡ y → d ≡ z → unsigned_abs x ≤ 2 ^ 20 → unsigned_abs y ≤ 2 ^ 20 → unsigned_abs z ≤ 2 ^ 20
    → to_z w32 (of_z w32 (to_z w32 (of_z w32 a) +ℤ to_z w32 (of_z w32 b))) +ℤ pos k ≡ to_z w32 (of_z w32 d) → z ≡ (x +ℤ y) +ℤ pos k
gap_above a b d x y z k ea eb ed p q r h = omega (arith, ints, ea, eb, ed, p, q, r, h)
