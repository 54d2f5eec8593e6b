-- The first 32 entries of each row are within 2^60, so that their ends fit 64 bits, and products of two ends 128.
use Rattle.std.proofs.Common.{ℕ, suc, ◌*◌, ◌^◌, ◌<◌, ◌≤◌, arith, ℤ, pos, ◌*ℤ◌, unsigned_abs, FitsSigned, w64}
use Rattle.std.proofs.lemmas.Int.{ints}
use Rattle.std.proofs.lemmas.Nat.{mul-le, pow_pos}
use Rattle.spec_numbers.specs.Numbers.{floor_div, ceil_div}
use Rattle.spec_intervals.specs.Interval.{least4, greatest4}
use Rattle.spec_numbers.proofs.Floor.{floor_div-small, ceil_div-small}
use Rattle.spec_chebyshev.specs.declared.ends.Ival62.{Ival62}
use Rattle.spec_chebyshev.specs.Differences.{Within}
use Rattle.spec_chebyshev.specs.Rows.{u_size, q_size, r_size, nothing, shifted, t_row, u_row, q_row, r_row, EndsWithin, IsArguments}
use Rattle.spec_numbers.proofs.Sizes.{product_size, least_size, greatest_size}
use Rattle.spec_chebyshev.proofs.Arguments.{within_size}
use Rattle.spec_chebyshev.proofs.RowEnds.{EndsWithin-t, EndsWithin-u, EndsWithin-q, EndsWithin-r}

module _ (a b c d : ℤ) (pa : unsigned_abs a ≤ 2 ^ 60) (pb : unsigned_abs b ≤ 2 ^ 60) (pc : unsigned_abs c ≤ 2 ^ 60) (pd : unsigned_abs d ≤ 2 ^ 60) where
  pub least4_bound : unsigned_abs (least4 a b c d) ≤ 2 ^ 120
  least4_bound =
      least_size (a *ℤ c) (a *ℤ d) (b *ℤ c) (b *ℤ d) (2 ^ 120) (product_size a c (2 ^ 60) (2 ^ 60) pa pc) (product_size a d (2 ^ 60) (2 ^ 60) pa pd) (product_size b c (2 ^ 60) (2 ^ 60) pb pc) (product_size b d (2 ^ 60) (2 ^ 60) pb pd)

  pub greatest4_bound : unsigned_abs (greatest4 a b c d) ≤ 2 ^ 120
  greatest4_bound =
      greatest_size (a *ℤ c) (a *ℤ d) (b *ℤ c) (b *ℤ d) (2 ^ 120) (product_size a c (2 ^ 60) (2 ^ 60) pa pc) (product_size a d (2 ^ 60) (2 ^ 60) pa pd) (product_size b c (2 ^ 60) (2 ^ 60) pb pc) (product_size b d (2 ^ 60) (2 ^ 60) pb pd)

-- ---- every entry of the first 32 is within 2^60
wider : (m : ℕ) (e : Ival62) → m ≤ 2 ^ 60 → EndsWithin m e → EndsWithin (2 ^ 60) e
wider m e h w =
    let a = w.lo.low in
    let b = w.lo.high in
    let c = w.hi.low in
    let d = w.hi.high in
    record { lo = record { low = omega (arith, ints); high = omega (arith, ints) }; hi = record { low = omega (arith, ints); high = omega (arith, ints) } }

pub u_most : (k : ℕ) → k < 32 → u_size k * 2 ^ 50 ≤ 2 ^ 60
u_most k h = omega arith

pub q_most : (k : ℕ) → k < 32 → q_size k * 2 ^ 46 ≤ 2 ^ 60
q_most k h = let a : k * k ≤ 31 * 31 = mul-le k k 31 31 (omega arith) (omega arith) in omega arith

pub r_product : (k : ℕ) → k < 32 → k * suc k * suc (suc k) ≤ 32736
r_product k h =
    let a : k * suc k ≤ 31 * 32 = mul-le k (suc k) 31 32 (omega arith) (omega arith) in
    mul-le (k * suc k) (suc (suc k)) (31 * 32) 33 a (omega arith)

pub r_most : (k : ℕ) → k < 32 → r_size k * 2 ^ 44 ≤ 2 ^ 60
r_most k h = let a : k * suc k * suc (suc k) ≤ 32736 = r_product k h in omega arith

pub EndsWithin-nothing : EndsWithin (2 ^ 60) nothing
EndsWithin-nothing = record { lo = record { low = omega (arith, ints); high = omega (arith, ints) }; hi = record { low = omega (arith, ints); high = omega (arith, ints) } }

module _ (x : Ival62) (h : IsArguments x) where
  pub t_within : (k : ℕ) → EndsWithin (2 ^ 60) (t_row x k)
  t_within k = wider (2 ^ 60) (t_row x k) (omega arith) (EndsWithin-t x h k)

  pub u_within : (k : ℕ) → k < 32 → EndsWithin (2 ^ 60) (u_row x k)
  u_within k p = wider (u_size k * 2 ^ 50) (u_row x k) (u_most k p) (EndsWithin-u x h k)

  pub q_within : (k : ℕ) → k < 32 → EndsWithin (2 ^ 60) (q_row x k)
  q_within k p = wider (q_size k * 2 ^ 46) (q_row x k) (q_most k p) (EndsWithin-q x h k)

  pub r_within : (k : ℕ) → k < 32 → EndsWithin (2 ^ 60) (r_row x k)
  r_within k p = wider (r_size k * 2 ^ 44) (r_row x k) (r_most k p) (EndsWithin-r x h k)

pub unit_fits : (z : ℤ) → Within z (pos (2 ^ 60)) → FitsSigned w64 z
unit_fits z w = let l = w.low in let h = w.high in omega (arith, ints)

-- an entry stays within 2^60 at a coarser unit
pub EndsWithin-shifted : (e : Ival62) (k : ℕ) → EndsWithin (2 ^ 60) e → EndsWithin (2 ^ 60) (shifted k e)
EndsWithin-shifted e k w =
    let a : unsigned_abs (floor_div e.lo (2 ^ k)) ≤ 2 ^ 60 = floor_div-small e.lo (2 ^ k) (2 ^ 60) (pow_pos k) (less e.lo w.lo) in
    let b : unsigned_abs (ceil_div e.hi (2 ^ k)) ≤ 2 ^ 60 = ceil_div-small e.hi (2 ^ k) (2 ^ 60) (pow_pos k) (less e.hi w.hi) in
    record { lo = record { low = omega (arith, ints); high = omega (arith, ints) }; hi = record { low = omega (arith, ints); high = omega (arith, ints) } }
  where
    less : (z : ℤ) → Within z (pos (2 ^ 60)) → unsigned_abs z ≤ 2 ^ 60 * 2 ^ k
    less z v = let s : unsigned_abs z ≤ 2 ^ 60 = within_size z (2 ^ 60) v in let p : 0 < 2 ^ k = pow_pos k in omega arith
