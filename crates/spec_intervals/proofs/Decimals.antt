-- A decimal at an exponent lies within its two roundings.
use Rattle.std.proofs.Common.{◌≡◌, ℕ, ◌*◌, ◌^◌, ◌<◌, arith, ap, [], ◌∷◌, ℤ, pos, ◌*ℤ◌, ◌≤ℤ◌}
use Rattle.std.proofs.Math.Nat.{one-le-pow, mul_comm}
use borrow.Author.Differences.{up, down}
use Rattle.spec_numbers.specs.Numbers.{floor_div, ceil_div}
use Rattle.spec_intervals.specs.Interval.{from_decimal, decimal_top, decimal_bottom}
use Rattle.spec_intervals.specs.Fraction.{Holds, decimal}
use Rattle.spec_numbers.proofs.Ring.{v, ◌⊗◌, ring}
use Rattle.spec_numbers.proofs.Naturals.{positive_product}
use Rattle.spec_numbers.proofs.Order.{lin}
use Rattle.spec_numbers.proofs.Floor.{floor_div-le, ceil_div-ge}

pub bottom_pos : (q s : ℤ) → 0 < decimal_bottom q s
bottom_pos q s = positive_product (10 ^ down q) (2 ^ up s) (one-le-pow (down q) 10 (omega arith)) (one-le-pow (up s) 2 (omega arith))

turned : (z : ℤ) (a b : ℕ) → z *ℤ pos (a * b) ≡ z *ℤ pos (b * a)
turned z a b = ap (λ n. z *ℤ pos n) (mul_comm a b)

grouped : (m : ℤ) (a b : ℕ) → m *ℤ pos (a * b) ≡ m *ℤ pos a *ℤ pos b
grouped m a b = ring (m ∷ pos a ∷ pos b ∷ []) (v 0 ⊗ (v 1 ⊗ v 2)) (v 0 ⊗ v 1 ⊗ v 2) tt

pub Holds-from_decimal : (m q s : ℤ) → Holds (from_decimal m q s) (decimal m q)
unfolding from_decimal
Holds-from_decimal m q s =
    let f : (floor_div (decimal_top m q s) (decimal_bottom q s) *ℤ pos (decimal_bottom q s)) ≤ℤ decimal_top m q s = floor_div-le (decimal_top m q s) (decimal_bottom q s) (bottom_pos q s) in
    let g : decimal_top m q s ≤ℤ (ceil_div (decimal_top m q s) (decimal_bottom q s) *ℤ pos (decimal_bottom q s)) = ceil_div-ge (decimal_top m q s) (decimal_bottom q s) (bottom_pos q s) in
    let a = turned (floor_div (decimal_top m q s) (decimal_bottom q s)) (2 ^ up s) (10 ^ down q) in
    let b = turned (ceil_div (decimal_top m q s) (decimal_bottom q s)) (2 ^ up s) (10 ^ down q) in
    let t = grouped m (10 ^ up q) (2 ^ down s) in
    record { low = omega (arith, lin); high = omega (arith, lin) }
