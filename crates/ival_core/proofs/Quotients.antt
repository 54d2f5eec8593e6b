-- A quotient and its rest tell the quotient rounded down and up.
use Rattle.std.proofs.Common.{◌≡◌, ℕ, zero, suc, ◌+◌, ◌-◌, ◌*◌, ◌/◌, ◌%◌, ◌^◌, ◌<◌, ◌≤◌, arith, sym, ap, ◌∙◌, ℤ, pos, negsuc, neg_ℤ, ◌-ℤ◌, ◌≤ℤ◌, unsigned_abs}
use Rattle.std.proofs.lemmas.Int.{ints}
use Rattle.std.proofs.lemmas.Nat.{div-mul-add}
use Rattle.std.proofs.Math.IntN.{neg_ℤ-neg_ℤ}
use Rattle.spec_numbers.specs.Numbers.{floor_div, ceil_div}
use Rattle.spec_numbers.proofs.Order.{lin}
use Rattle.spec_numbers.proofs.Sizes.{unsigned_abs-neg}

pub quotient_is : (n q d r : ℕ) → q * d + r ≡ n → r < d → n / d ≡ q
quotient_is n q d r e l = ap (λ m. m / d) (sym e) ∙ div-mul-add q d r l

module _ (z : ℤ) (q d r : ℕ) (e : q * d + r ≡ unsigned_abs z) (l : r < d) where
  pub down-above : pos 0 ≤ℤ z → pos q ≡ floor_div z d
  down-above h = by z e h
    where
      by : (y : ℤ) → q * d + r ≡ unsigned_abs y → pos 0 ≤ℤ y → pos q ≡ floor_div y d
      by (pos n) f g = ap pos (sym (quotient_is n q d r f l))
      by (negsuc n) f g = absurd (omega (arith, ints, g))

  pub down-below : z ≤ℤ pos 0 → 1 ≤ r → neg_ℤ (pos q) -ℤ pos 1 ≡ floor_div z d
  down-below h m = by z e h
    where
      last : (q : ℕ) → neg_ℤ (pos q) -ℤ pos 1 ≡ negsuc q
      last q = omega (arith, ints)

      by : (y : ℤ) → q * d + r ≡ unsigned_abs y → y ≤ℤ pos 0 → neg_ℤ (pos q) -ℤ pos 1 ≡ floor_div y d
      by (pos n) f g = absurd (omega (arith, ints, f, g, m))
      by (negsuc n) f g = last q ∙ ap negsuc (sym (quotient_is n q d (r - 1) (omega (arith, f, m)) (omega (arith, l))))

  pub down-below_exact : z ≤ℤ pos 0 → r ≡ 0 → neg_ℤ (pos q) ≡ floor_div z d
  down-below_exact h m = by q z e h
    where
      by : (p : ℕ) (y : ℤ) → p * d + r ≡ unsigned_abs y → y ≤ℤ pos 0 → neg_ℤ (pos p) ≡ floor_div y d
      by zero (pos n) f g = let k : n ≡ 0 = omega (arith, ints, g) in ap pos (sym (quotient_is n 0 d 0 (omega (arith, k)) (omega (arith, l, m))))
      by zero (negsuc n) f g = absurd (omega (arith, f, m))
      by (suc p) (pos n) f g = absurd (grind (arith, ints))
      by (suc p) (negsuc n) f g = ap negsuc (sym (quotient_is n p d (d - 1) (omega (arith, f, m, l)) (omega (arith, l))))

module _ (z : ℤ) (q d r : ℕ) (e : q * d + r ≡ unsigned_abs z) (l : r < d) where
  negated_parts : q * d + r ≡ unsigned_abs (neg_ℤ z)
  negated_parts = e ∙ sym (unsigned_abs-neg z)

  pub up-below : z ≤ℤ pos 0 → neg_ℤ (pos q) ≡ ceil_div z d
  up-below h = ap neg_ℤ (down-above (neg_ℤ z) q d r negated_parts l (omega (arith, lin)))

  pub up-above : pos 0 ≤ℤ z → 1 ≤ r → pos (q + 1) ≡ ceil_div z d
  up-above h m = next q ∙ ap neg_ℤ (down-below (neg_ℤ z) q d r negated_parts l (omega (arith, lin)) m)
    where
      next : (q : ℕ) → pos (q + 1) ≡ neg_ℤ (neg_ℤ (pos q) -ℤ pos 1)
      next q = omega (arith, ints)

  pub up-above_exact : pos 0 ≤ℤ z → r ≡ 0 → pos q ≡ ceil_div z d
  up-above_exact h m = sym (neg_ℤ-neg_ℤ (pos q)) ∙ ap neg_ℤ (down-below_exact (neg_ℤ z) q d r negated_parts l (omega (arith, lin)) m)

-- a quotient in two steps of 64 bits
pub two_steps : (x d a r b s : ℕ) → a * d + r ≡ x / 2 ^ 64 → b * d + s ≡ r * 2 ^ 64 + x % 2 ^ 64 → (a * 2 ^ 64 + b) * d + s ≡ x
two_steps x d a r b s e f = omega (arith, e, f)
