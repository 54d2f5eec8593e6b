-- Shifts of small ends.
use Rattle.std.proofs.Common.{◌≡◌, ℕ, ◌*◌, ◌%◌, ◌^◌, ◌≤◌, arith, ap, ◌∙◌, ℤ, pos, ◌+ℤ◌, ◌*ℤ◌, unsigned_abs, to_z, of_z, w32, w64, FitsSigned}
use Rattle.std.proofs.lemmas.Int.{ints, to_z_pos, unsigned_abs-mul, fits_signed_from_abs}
use Rattle.std.proofs.lemmas.Nat.{one_shl, mul-le}
use Rattle.std.proofs.Math.Nat.{pow-le-pow_right}
use mir.Syntax.{w128}
use Rattle.spec_numbers.proofs.Sizes.{product_size, least_size, greatest_size}
use Rattle.spec_intervals.specs.Interval.{greatest4, least4}
use Rattle.ival_core.proofs.Powers.{mant_size}

pub one_shifted : (m : ℕ) → m ≤ 60 → to_z w128 (1 * 2 ^ m % 2 ^ 128) ≡ pos (2 ^ m)
one_shifted m h =
    let e : (1 * 2 ^ m) % 2 ^ 128 ≡ 2 ^ m = one_shl m 128 (omega arith) in
    let b : 2 ^ m ≤ 2 ^ 60 = pow-le-pow_right (omega arith) h in
    ap (to_z w128) e ∙ to_z_pos w128 (2 ^ m) (omega arith)

pub lift_bound : (z : ℤ) (m : ℕ) → unsigned_abs z ≤ 2 ^ 62 → m ≤ 60 → unsigned_abs (z *ℤ pos (2 ^ m)) ≤ 2 ^ 122
lift_bound z m h p =
    let b : 2 ^ m ≤ 2 ^ 60 = pow-le-pow_right (omega arith) p in
    rw (unsigned_abs-mul z (pos (2 ^ m))) (mul-le (unsigned_abs z) (2 ^ m) (2 ^ 62) (2 ^ 60) h b)

pub lift_fits : (z : ℤ) (m : ℕ) → unsigned_abs z ≤ 2 ^ 62 → m ≤ 60 → FitsSigned w128 (z *ℤ pos (2 ^ m))
lift_fits z m h p = let b : unsigned_abs (z *ℤ pos (2 ^ m)) ≤ 2 ^ 122 = lift_bound z m h p in fits_signed_from_abs w128 (z *ℤ pos (2 ^ m)) (omega arith)

pub small_fits : (z : ℤ) → unsigned_abs z ≤ 2 ^ 62 → FitsSigned w128 z
small_fits z h = fits_signed_from_abs w128 z (omega arith)

-- two numbers of 64 bits have a product of 128
pub product_fits : (a b : ℤ) → FitsSigned w64 a → FitsSigned w64 b → FitsSigned w128 (a *ℤ b)
product_fits a b f g =
    let h = product_size a b (2 ^ 63) (2 ^ 63) (mant_size a f) (mant_size b g) in
    fits_signed_from_abs w128 (a *ℤ b) (omega arith)

pub product_bound : (a b : ℤ) → unsigned_abs a ≤ 2 ^ 62 → unsigned_abs b ≤ 2 ^ 62 → unsigned_abs (a *ℤ b) ≤ 2 ^ 124
product_bound a b p q = product_size a b (2 ^ 62) (2 ^ 62) p q

module _ (a b c d : ℤ) (p : unsigned_abs a ≤ 2 ^ 62) (q : unsigned_abs b ≤ 2 ^ 62) (r : unsigned_abs c ≤ 2 ^ 62) (s : unsigned_abs d ≤ 2 ^ 62) where
  pub greatest_bound : unsigned_abs (greatest4 a b c d) ≤ 2 ^ 124
  greatest_bound = greatest_size (a *ℤ c) (a *ℤ d) (b *ℤ c) (b *ℤ d) (2 ^ 124) (product_bound a c p r) (product_bound a d p s) (product_bound b c q r) (product_bound b d q s)

  pub least_bound : unsigned_abs (least4 a b c d) ≤ 2 ^ 124
  least_bound = least_size (a *ℤ c) (a *ℤ d) (b *ℤ c) (b *ℤ d) (2 ^ 124) (product_bound a c p r) (product_bound a d p s) (product_bound b c q r) (product_bound b d q s)

-- a small end is within 64 bits
pub small_narrow : (z : ℤ) → unsigned_abs z ≤ 2 ^ 62 → FitsSigned w64 z
small_narrow z h = fits_signed_from_abs w64 z (omega arith)

-- an exponent and a shift, as the code adds them
pub exponent_sum : (a b : ℤ) (k : ℕ) → a ≡ b → unsigned_abs b ≤ 65536 → k ≤ 131072 → to_z w32 (of_z w32 (to_z w32 (of_z w32 a) +ℤ to_z w32 k)) ≡ a +ℤ pos k
exponent_sum a b k e h p = omega (arith, ints)

pub shift_bound : (a b : ℤ) (k : ℕ) → a ≡ b → unsigned_abs b ≤ 65536 → k ≤ 131072 → unsigned_abs (to_z w32 (of_z w32 (to_z w32 (of_z w32 a) +ℤ to_z w32 k))) ≤ 262144
shift_bound a b k e h p = omega (arith, ints)
