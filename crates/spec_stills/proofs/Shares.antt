-- Shares of a margin, and how they add.
use Rattle.std.proofs.Common.{ℕ, ◌-◌, ◌*◌, ◌^◌, ◌<◌, arith, [], ◌∷◌, ℤ, pos, ◌*ℤ◌, ◌≤ℤ◌, ◌<ℤ◌}
use Rattle.std.proofs.Math.Nat.{mul-pos}
use borrow.Author.Differences.{up, down}
use Rattle.spec_numbers.proofs.Ring.{Poly, v, k as lit, ◌⊕◌, ◌⊖◌, ◌⊗◌, minus, ring}
use Rattle.spec_numbers.proofs.Order.{lin, le_by, le-mul}
use Rattle.spec_intervals.specs.Fraction.{Fraction, IsFraction, fraction, fraction_add, fraction_sub}
use Rattle.spec_models.specs.Ends.{NoMore, in_units, slight}
use Rattle.spec_stills.specs.Margins.{opposite}

-- k / m of g
abbrev pub share : ℕ → ℕ → Fraction → Fraction
share k m g = fraction (g.numerator *ℤ pos k) (g.denominator * m)

-- what steps that fit add, with what rounding adds to it
abbrev pub most_of : Fraction → Fraction
most_of g = share 125 128 g

-- what rounding a sum of two sizes may lose
abbrev pub both_shares : Fraction → Fraction
both_shares g = fraction_add (share (2 ^ 52) 1 g) (most_of g)

-- a margin as n / d, what stands under its shares, and what rounding a sum of two of them loses
abbrev n : Poly
n = v 0

abbrev d : Poly
d = v 1

abbrev under_most : Poly
under_most = d ⊗ lit (pos 128)

abbrev under_one : Poly
under_one = d ⊗ lit (pos 1)

abbrev lost : Poly
lost = n ⊗ lit (pos (2 ^ 52)) ⊗ under_most ⊕ n ⊗ lit (pos 125) ⊗ under_one

abbrev under_lost : Poly
under_lost = under_one ⊗ under_most ⊗ lit (pos (2 ^ 58))

module _ (g : Fraction) (positive : pos 0 <ℤ g.numerator) where
  scaled_positive : (k : ℕ) → pos 0 ≤ℤ (g.numerator *ℤ pos k)
  scaled_positive k =
      let l = le-mul (pos 0) g.numerator (pos k) (omega (arith, lin)) (omega (arith, lin)) in
      let e = ring (pos k ∷ []) (lit (pos 0) ⊗ v 0) (lit (pos 0)) tt in
      omega (arith, lin)

  -- 31/32 and a little of it are at most 125/128
  pub steps_and_little : NoMore (fraction_add (share 31 32 g) (slight (share 31 32 g))) (most_of g)
  steps_and_little =
      let steps = n ⊗ lit (pos 31) in
      let under = d ⊗ lit (pos 32) in
      let little = under ⊗ lit (pos (2 ^ 58)) in
      le_by _ _ (g.numerator *ℤ pos (g.denominator * g.denominator * (1024 * 2 ^ 58 - 126976)))
      (ring (g.numerator ∷ pos g.denominator ∷ [])
      (n ⊗ lit (pos 125) ⊗ (under ⊗ little) ⊖ (steps ⊗ little ⊕ steps ⊗ under) ⊗ (d ⊗ lit (pos 128)))
      (n ⊗ (d ⊗ d ⊗ lit (pos (1024 * 2 ^ 58 - 126976)))) tt)
      (scaled_positive (g.denominator * g.denominator * (1024 * 2 ^ 58 - 126976)))

  -- what is left of the whole below 0, and above it: a 256th at least
  pub left_below : NoMore (fraction_add (fraction_add (opposite g) (most_of g)) (slight (both_shares g)))
      (opposite (share 1 256 g))
  left_below =
      let rest = d ⊗ lit (pos 256) in
      let most = minus n ⊗ under_most ⊕ n ⊗ lit (pos 125) ⊗ d in
      le_by _ _
      (g.numerator *ℤ pos (g.denominator * g.denominator * (g.denominator * g.denominator) * (16384 * 2 ^ 58 - 4096000)))
      (ring (g.numerator ∷ pos g.denominator ∷ [])
      (minus (n ⊗ lit (pos 1)) ⊗ (d ⊗ under_most ⊗ under_lost) ⊖ (most ⊗ under_lost ⊕ lost ⊗ (d ⊗ under_most)) ⊗ rest)
      (n ⊗ (d ⊗ d ⊗ (d ⊗ d) ⊗ lit (pos (16384 * 2 ^ 58 - 4096000)))) tt)
      (scaled_positive (g.denominator * g.denominator * (g.denominator * g.denominator) * (16384 * 2 ^ 58 - 4096000)))

  pub left_above : NoMore (share 1 256 g) (fraction_sub (fraction_add g (opposite (most_of g))) (slight (both_shares g)))
  left_above =
      let rest = d ⊗ lit (pos 256) in
      let most = n ⊗ under_most ⊕ minus (n ⊗ lit (pos 125)) ⊗ d in
      le_by _ _
      (g.numerator *ℤ pos (g.denominator * g.denominator * (g.denominator * g.denominator) * (16384 * 2 ^ 58 - 4096000)))
      (ring (g.numerator ∷ pos g.denominator ∷ [])
      ((most ⊗ under_lost ⊖ lost ⊗ (d ⊗ under_most)) ⊗ rest ⊖ n ⊗ lit (pos 1) ⊗ (d ⊗ under_most ⊗ under_lost))
      (n ⊗ (d ⊗ d ⊗ (d ⊗ d) ⊗ lit (pos (16384 * 2 ^ 58 - 4096000)))) tt)
      (scaled_positive (g.denominator * g.denominator * (g.denominator * g.denominator) * (16384 * 2 ^ 58 - 4096000)))

-- ---- sums are fractions
pub add_is_fraction : (a b : Fraction) → IsFraction a → IsFraction b → IsFraction (fraction_add a b)
add_is_fraction a b p q = mul-pos p q

pub share_is_fraction : (k m : ℕ) (g : Fraction) → 0 < m → IsFraction g → IsFraction (share k m g)
share_is_fraction k m g p is = mul-pos is p

-- ---- units
-- where 2^10 units are at most g, so are 2^62 of them at most 2^52 times g, and one of them a 2^10th of it
pub many_units : (s : ℤ) (g : Fraction) → NoMore (in_units (pos 1024) s) g
    → NoMore (in_units (pos (2 ^ 62)) s) (share (2 ^ 52) 1 g)
many_units s g h =
    let l = le-mul (pos 1024 *ℤ pos (2 ^ up s) *ℤ pos g.denominator) (g.numerator *ℤ pos (2 ^ down s)) (pos (2 ^ 52))
    (omega (arith, lin)) h in
    let e = ring (pos (2 ^ up s) ∷ pos g.denominator ∷ []) (lit (pos 1024) ⊗ v 0 ⊗ v 1 ⊗ lit (pos (2 ^ 52)))
    (lit (pos (2 ^ 62)) ⊗ v 0 ⊗ (v 1 ⊗ lit (pos 1))) tt in
    let f = ring (g.numerator ∷ pos (2 ^ down s) ∷ []) (v 0 ⊗ v 1 ⊗ lit (pos (2 ^ 52))) (v 0 ⊗ lit (pos (2 ^ 52)) ⊗ v 1) tt in
    omega (arith, lin)

pub one_unit : (s : ℤ) (g : Fraction) → NoMore (in_units (pos 1024) s) g → NoMore (in_units (pos 1) s) (share 1 1024 g)
one_unit s g h =
    let e = ring (pos (2 ^ up s) ∷ pos g.denominator ∷ []) (lit (pos 1024) ⊗ v 0 ⊗ v 1)
    (lit (pos 1) ⊗ v 0 ⊗ (v 1 ⊗ lit (pos 1024))) tt in
    let f = ring (g.numerator ∷ pos (2 ^ down s) ∷ []) (v 0 ⊗ v 1) (v 0 ⊗ lit (pos 1) ⊗ v 1) tt in
    omega (arith, lin)
