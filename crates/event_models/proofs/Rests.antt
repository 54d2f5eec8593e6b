-- What is taken of a signed square by a product with the signed square of the cosine 0: nothing that shows in its sign.
use Rattle.std.specs.Prelude.{if◌then◌else◌}
use Rattle.std.proofs.Common.{◌≡◌, ℕ, [], ◌∷◌, ◌*◌, ◌/◌, ◌^◌, ◌<◌, ◌∙◌, refl, Bool, true, false, ℤ, pos, neg_ℤ, ◌+ℤ◌, ◌*ℤ◌, ap}
use Rattle.std.proofs.Math.Nat.{div-eq_of_lt}
use borrow.Author.Differences.{up, down}
use Rattle.spec_numbers.specs.Numbers.{floor_div, ceil_div}
use Rattle.spec_numbers.proofs.Ring.{v, k as lit, ◌⊗◌, ring}
use Rattle.spec_text.specs.declared.decimals.Decimal.{Decimal}
use Rattle.spec_intervals.specs.Interval.{Interval, cosine_exponent, decimal_bottom, difference, from_decimal, interval, is_zero, product, signed_square, sum, zero_interval}
use Rattle.spec_intervals.specs.Signs.{sign_of}
use Rattle.spec_intervals.proofs.Decimals.{bottom_pos}
use Rattle.spec_intervals.proofs.Narrow.{narrow_of_zero, zero_ends}
use Rattle.spec_expressions.proofs.Zeros.{product_of_zero}

nothing_times : (z : ℤ) → pos 0 *ℤ z ≡ pos 0
nothing_times z = ring (z ∷ []) (lit (pos 0) ⊗ v 0) (lit (pos 0)) tt

nothing_divided : (d : ℕ) → 0 < d → 0 / d ≡ 0
nothing_divided d some = div-eq_of_lt some

zero_over : (d : ℕ) (s : ℤ) → 0 < d → interval (floor_div (pos 0) d) (ceil_div (pos 0) d) s ≡ interval (pos 0) (pos 0) s
zero_over d s some = ap (λ n. interval (pos n) (neg_ℤ (pos n)) s) (nothing_divided d some)

zero_decimal : (q s : ℤ) → from_decimal (pos 0) q s ≡ interval (pos 0) (pos 0) s
unfolding from_decimal
zero_decimal q s =
    ap (λ t. interval (floor_div t (decimal_bottom q s)) (ceil_div t (decimal_bottom q s)) s) (nothing_times (pos (10 ^ up q * 2 ^ down s)))
    ∙ zero_over (decimal_bottom q s) s (bottom_pos q s)

zero_squared : (s : ℤ) → signed_square (interval (pos 0) (pos 0) s) ≡ zero_interval
unfolding signed_square
zero_squared s = narrow_of_zero (s +ℤ s)

-- less 0
zero_taken : (x : Interval) → sign_of (difference x zero_interval) ≡ sign_of x
unfolding difference sum
zero_taken x = by (is_zero x) refl
  where
    by : (b : Bool) → is_zero x ≡ b → sign_of (if b then zero_interval else x) ≡ sign_of x
    by true e = let ends = zero_ends x.lo x.hi e in rw ends.0 refl
    by false e = refl

pub rest_taken : (d : Decimal) (x y : Interval) → d.mant ≡ pos 0
    → sign_of (difference x (product (signed_square (from_decimal d.mant d.exp cosine_exponent)) y)) ≡ sign_of x
rest_taken d x y none =
    ap (λ m. sign_of (difference x (product (signed_square (from_decimal m d.exp cosine_exponent)) y))) none
    ∙ (ap (λ z. sign_of (difference x (product (signed_square z) y))) (zero_decimal d.exp cosine_exponent)
    ∙ (ap (λ z. sign_of (difference x (product z y))) (zero_squared cosine_exponent)
    ∙ (ap (λ z. sign_of (difference x z)) (product_of_zero y) ∙ zero_taken x)))
