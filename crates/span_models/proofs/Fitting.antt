-- Sums and products that are within their types, and numbers that are passed on.
use Rattle.std.proofs.Common.{◌≡◌, ◌∙◌, ℕ, ◌*◌, ◌^◌, ◌<◌, ◌≤◌, arith, ap, ℤ, pos, ◌+ℤ◌, ◌-ℤ◌, ◌*ℤ◌, ◌≤ℤ◌, unsigned_abs, to_z, of_z, w64}
use Rattle.std.proofs.lemmas.Int.{ints, to_z-of_z, fits_signed_from_abs}
use Rattle.std.proofs.lemmas.Nat.{mul-le}
use Rattle.std.specs.Int.{int_max}
use mir.Syntax.{w128}
use mir.Val.{SFits, Fits}
use Rattle.spec_numbers.specs.Numbers.{floor_div}
use Rattle.spec_numbers.proofs.Floor.{floor_div-le, floor_div-lt}
use Rattle.spec_numbers.proofs.Sizes.{product_size, scaled_size, max_size}
use Rattle.spec_chebyshev.specs.Differences.{Within}
use Rattle.span_models.specs.Making.{IsMiddle}

-- ---- a number of 64 bits that is extended to 128
pub factor_kept : (z : ℤ) → SFits w64 z → to_z w128 (of_z w128 (to_z w64 (of_z w64 z))) ≡ z
factor_kept z f =
    let wide : SFits w128 z = omega (arith, ints, f) in
    ap (λ y. to_z w128 (of_z w128 y)) (to_z-of_z w64 z f) ∙ to_z-of_z w128 z wide

module _ (a b : ℤ) (m n : ℕ) (f : SFits w64 a) (g : SFits w64 b) (p : unsigned_abs a ≤ m) (q : unsigned_abs b ≤ n) (few : m * n < 2 ^ 127) where
  abbrev made : ℤ
  made = to_z w128 (of_z w128 (to_z w64 (of_z w64 a))) *ℤ to_z w128 (of_z w128 (to_z w64 (of_z w64 b)))

  made_is : made ≡ a *ℤ b
  made_is = λ i. factor_kept a f i *ℤ factor_kept b g i

  pub product_fits : SFits w128 made
  product_fits =
      let s = product_size a b m n p q in
      rw made_is (fits_signed_from_abs w128 (a *ℤ b) (omega (arith, s, few)))

  pub product_kept : to_z w128 (of_z w128 made) ≡ a *ℤ b
  product_kept = to_z-of_z w128 made product_fits ∙ made_is

  pub product_small : unsigned_abs (to_z w128 (of_z w128 made)) ≤ m * n
  product_small = rw product_kept (product_size a b m n p q)

pub difference_fits : (a b : ℤ) → SFits w64 a → SFits w64 b → SFits w128 (a -ℤ b)
difference_fits a b f g = omega (arith, ints, f, g)

-- a number in units of 2^-56
pub unit_fits : (z : ℤ) → SFits w64 z → SFits w128 (z *ℤ pos (2 ^ 56))
unit_fits z f =
    let p : unsigned_abs z ≤ 2 ^ 63 = omega (arith, ints, f) in
    let s = product_size z (pos (2 ^ 56)) (2 ^ 63) (2 ^ 56) p (omega arith) in
    fits_signed_from_abs w128 (z *ℤ pos (2 ^ 56)) (omega (arith, s))

pub unit_small : (z q : ℤ) → Within z q → unsigned_abs (z *ℤ pos (2 ^ 56)) ≤ 2 ^ 56 * unsigned_abs q
unit_small z q inside =
    let l = inside.low in
    let h = inside.high in
    let p : unsigned_abs z ≤ unsigned_abs q = omega (arith, ints, l, h) in
    let e = scaled_size z (2 ^ 56) in
    omega (arith, e, p)

-- ---- how far a number is above another, and at least 1
module _ (m l q r : ℤ) (f : SFits w64 m) (g : SFits w64 l) (h : SFits w64 q) (ordered : m ≤ℤ l) (near : l ≤ℤ (m +ℤ q)) (is : r ≡ int_max (to_z w128 (of_z w128 (to_z w128 (of_z w128 (to_z w64 (of_z w64 l))) -ℤ to_z w128 (of_z w128 (to_z w64 (of_z w64 m)))))) (pos 1)) where
  swapped : (y : ℤ) → int_max y (pos 1) ≡ int_max (pos 1) y
  swapped y = grind (arith, ints)

  difference_kept : to_z w128 (of_z w128 (to_z w128 (of_z w128 (to_z w64 (of_z w64 l))) -ℤ to_z w128 (of_z w128 (to_z w64 (of_z w64 m))))) ≡ l -ℤ m
  difference_kept = rw (factor_kept l g, factor_kept m f) (to_z-of_z w128 (l -ℤ m) (difference_fits l m g f))

  pub width_is : r ≡ int_max (pos 1) (l -ℤ m)
  width_is = is ∙ ap (λ y. int_max y (pos 1)) difference_kept ∙ swapped (l -ℤ m)

  pub width_fits : SFits w64 r
  width_fits =
      let d : unsigned_abs (l -ℤ m) ≤ 9223372036854775807 = omega (arith, ints, f, g, h, ordered, near) in
      let s = max_size (pos 1) (l -ℤ m) 9223372036854775807 (omega arith) d in
      rw width_is (fits_signed_from_abs w64 (int_max (pos 1) (l -ℤ m)) (omega (arith, s)))

-- ---- products of numbers without a sign
pub words_product : (a b : ℕ) → a < 2 ^ 64 → b < 2 ^ 64 → Fits w128 (a * b)
words_product a b p q =
    let h = mul-le a b 18446744073709551615 18446744073709551615 (omega (arith, p)) (omega (arith, q)) in
    record { fits = omega (arith, h) }

-- a size and an error
pub error_product : (a b : ℕ) → a ≤ 10 * 2 ^ 60 → b ≤ 2 ^ 60 → a * b ≤ 10 * 2 ^ 120
error_product a b p q = mul-le a b (10 * 2 ^ 60) (2 ^ 60) p q

-- ---- half the sum of two ends
module _ (a b : ℤ) (p : unsigned_abs a ≤ 2 ^ 62) (q : unsigned_abs b ≤ 2 ^ 62) where
  pub ends_fit : SFits w128 (a +ℤ b)
  ends_fit = omega (arith, ints, p, q)

  half_small : unsigned_abs (floor_div (a +ℤ b) 2) ≤ 2 ^ 62
  half_small =
      let l = floor_div-le (a +ℤ b) 2 (omega arith) in
      let h = floor_div-lt (a +ℤ b) 2 (omega arith) in
      omega (arith, ints, l, h, p, q)

  pub half_kept : to_z w128 (of_z w128 (floor_div (a +ℤ b) 2)) ≡ floor_div (a +ℤ b) 2
  half_kept = let s = half_small in to_z-of_z w128 (floor_div (a +ℤ b) 2) (fits_signed_from_abs w128 (floor_div (a +ℤ b) 2) (omega (arith, s)))

  pub half_fits : SFits w64 (floor_div (a +ℤ b) 2)
  half_fits = let s = half_small in fits_signed_from_abs w64 (floor_div (a +ℤ b) 2) (omega (arith, s))

-- the middle of two ends, and how far the upper one is above it
pub middle_is : (lo hi o : ℤ) (d : ℕ) → o ≡ floor_div (lo +ℤ hi) 2 → pos d ≡ hi -ℤ o → lo ≤ℤ hi → IsMiddle lo hi o d
middle_is lo hi o d eo ed ordered =
    let l = floor_div-le (lo +ℤ hi) 2 (omega arith) in
    let h = floor_div-lt (lo +ℤ hi) 2 (omega arith) in
    record {
      low = omega (arith, ints, l, h, eo, ed);
      high = omega (arith, ints, ed);
      ordered = ordered;
    }
