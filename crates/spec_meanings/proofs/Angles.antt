-- The separation, by the signs of the cosines.
use Rattle.std.proofs.Common.{◌≡◌, ℕ, suc, ◌<◌, arith, ap, ◌∙◌, [], ◌∷◌, ℤ, pos, negsuc, ◌-ℤ◌, ◌*ℤ◌, neg_ℤ, ◌≤ℤ◌, ◌<ℤ◌}
use Rattle.std.specs.Prelude.{◌⊎◌}
use mathlib.Core.Logic.{inl, inr}
use Rattle.spec_numbers.proofs.Ring.{v, ◌⊗◌, minus, ring}
use Rattle.spec_numbers.proofs.Order.{lin, nonneg-square}
use Rattle.spec_numbers.proofs.Whole.{nonneg-mul}
use Rattle.spec_intervals.specs.Interval.{signed_sq}
use Rattle.spec_meanings.proofs.Cancel.{positive-mul}

-- the signed square of a number below 0
negative_square : (n : ℕ) → signed_sq (negsuc n) ≡ neg_ℤ (negsuc n *ℤ negsuc n)
negative_square n = ring (pos (suc n) ∷ []) (minus (v 0) ⊗ v 0) (minus (minus (v 0) ⊗ minus (v 0))) tt

abbrev Within : ℤ → ℤ → ℤ → ℕ → Type 0
Within e g (pos c) m = (pos 0 ≤ℤ e) × (((pos c *ℤ pos c) *ℤ g) ≤ℤ ((e *ℤ e) *ℤ pos m))
Within e g (negsuc c) m = (pos 0 ≤ℤ e) ⊎ (((e *ℤ e) *ℤ pos m) ≤ℤ ((negsuc c *ℤ negsuc c) *ℤ g))

-- e is the dot product, g the product of the squares of the distances, m the square of the cosine's denominator
module _ (g : ℤ) (m : ℕ) (g0 : pos 0 ≤ℤ g) (m0 : 0 < m) where
  square_times : (e : ℤ) → pos 0 ≤ℤ ((e *ℤ e) *ℤ pos m)
  square_times e = nonneg-mul (e *ℤ e) (pos m) (nonneg-square e) (omega (arith, lin))

  square_beside : (c : ℤ) → pos 0 ≤ℤ ((c *ℤ c) *ℤ g)
  square_beside c = nonneg-mul (c *ℤ c) g (nonneg-square c) g0

  turned_times : (n : ℕ) → signed_sq (negsuc n) *ℤ pos m ≡ neg_ℤ ((negsuc n *ℤ negsuc n) *ℤ pos m)
  turned_times n =
      ap (λ z. z *ℤ pos m) (negative_square n) ∙ ring ((negsuc n *ℤ negsuc n) ∷ pos m ∷ []) (minus (v 0) ⊗ v 1) (minus (v 0 ⊗ v 1)) tt

  turned_beside : (n : ℕ) → signed_sq (negsuc n) *ℤ g ≡ neg_ℤ ((negsuc n *ℤ negsuc n) *ℤ g)
  turned_beside n =
      ap (λ z. z *ℤ g) (negative_square n) ∙ ring ((negsuc n *ℤ negsuc n) ∷ g ∷ []) (minus (v 0) ⊗ v 1) (minus (v 0 ⊗ v 1)) tt

  above : (n : ℕ) → pos 0 <ℤ ((negsuc n *ℤ negsuc n) *ℤ pos m)
  above n =
      let e : negsuc n *ℤ negsuc n ≡ pos (suc n) *ℤ pos (suc n) = ring (pos (suc n) ∷ []) (minus (v 0) ⊗ minus (v 0)) (v 0 ⊗ v 0) tt in
      let p : pos 0 <ℤ (pos (suc n) *ℤ pos (suc n)) = positive-mul (pos (suc n)) (pos (suc n)) (omega (arith, lin)) (omega (arith, lin)) in
      positive-mul (negsuc n *ℤ negsuc n) (pos m) (omega (arith, lin)) (omega (arith, lin))

  pub within_is : (e c : ℤ) → pos 0 ≤ℤ (signed_sq e *ℤ pos m -ℤ signed_sq c *ℤ g) → Within e g c m
  within_is (pos e) (pos c) h = (omega (arith, lin), omega (arith, lin))
  within_is (pos e) (negsuc c) h = inl (omega (arith, lin))
  within_is (negsuc e) (pos c) h =
      let t = turned_times e in
      let a = above e in
      let b = square_beside (pos c) in
      absurd (omega (arith, lin))
  within_is (negsuc e) (negsuc c) h = let t = turned_times e in let u = turned_beside c in inr (omega (arith, lin))

  pub is_within : (e c : ℤ) → Within e g c m → pos 0 ≤ℤ (signed_sq e *ℤ pos m -ℤ signed_sq c *ℤ g)
  is_within (pos e) (pos c) h = let k : ((pos c *ℤ pos c) *ℤ g) ≤ℤ ((pos e *ℤ pos e) *ℤ pos m) = h.1 in omega (arith, lin)
  is_within (negsuc e) (pos c) h = let k : pos 0 ≤ℤ negsuc e = h.0 in absurd (omega (arith, lin))
  is_within (pos e) (negsuc c) h =
      let u = turned_beside c in
      let a = square_times (pos e) in
      let b = square_beside (negsuc c) in
      omega (arith, lin)
  is_within (negsuc e) (negsuc c) (inl h) = absurd (omega (arith, lin))
  is_within (negsuc e) (negsuc c) (inr h) = let t = turned_times e in let u = turned_beside c in omega (arith, lin)
