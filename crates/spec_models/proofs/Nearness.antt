-- Nearness over plain numbers, and at any degree and any way of writing the exponent.
use Rattle.std.proofs.Common.{◌≡◌, ℕ, zero, suc, ◌+◌, ◌-◌, ◌*◌, ◌^◌, ◌≤◌, arith, sym, ap, subst, ◌∙◌, [], ◌∷◌, length, ℤ, pos, negsuc, ◌+ℤ◌, ◌-ℤ◌, ◌*ℤ◌, neg_ℤ, ◌≤ℤ◌, ◌<ℤ◌, unsigned_abs}
use Rattle.std.proofs.lemmas.Int.{ints}
use Rattle.std.proofs.lemmas.Nat.{pow_pos, pow-add}
use borrow.Author.Differences.{up, down}
use Rattle.spec_numbers.specs.Numbers.{power}
use Rattle.spec_numbers.proofs.Ring.{v, k as lit, ◌⊕◌, ◌⊖◌, ◌⊗◌, minus, ring}
use Rattle.spec_numbers.proofs.Order.{lin, le-mul}
use Rattle.spec_numbers.proofs.Sizes.{own_size}
use Rattle.spec_numbers.proofs.Naturals.{power-add}
use Rattle.spec_intervals.specs.Fraction.{Fraction, IsFraction}
use Rattle.spec_chebyshev.specs.Differences.{IsArgument, Within}
use Rattle.spec_models.specs.Models.{Model, at, IsNear}
use Rattle.spec_models.proofs.Lists.{at-many}
use Rattle.spec_models.proofs.Bounds.{Within-is, Within-scale, Within-cancel}

-- n / D is within E units U / W of A / Q
pub record Apart (A Q E U W n D : ℤ) : Type 0 where
  pub within : Within (n *ℤ (Q *ℤ W) -ℤ A *ℤ (U *ℤ D)) (E *ℤ Q *ℤ (U *ℤ D))

-- ---- powers of an argument's denominator
pub power-one : (q : ℤ) (d : ℕ) → pos 0 <ℤ q → pos 1 ≤ℤ power q d
power-one q zero h = omega (arith, lin)
power-one q (suc d) h =
    let ih : pos 1 ≤ℤ power q d = power-one q d h in
    let m : (pos 1 *ℤ power q d) ≤ℤ (q *ℤ power q d) = le-mul (pos 1) q (power q d) (omega (arith, lin)) (omega (arith, lin)) in
    let e : pos 1 *ℤ power q d ≡ power q d = ring (power q d ∷ []) (lit (pos 1) ⊗ v 0) (v 0) tt in
    omega (arith, lin)

pub own-power : (q : ℤ) (d : ℕ) → pos 0 <ℤ q → pos (unsigned_abs (power q d)) ≡ power q d
own-power q d h = own_size (power q d) (power-one q d h)

pub Within-cancel_above : (z b c : ℤ) → pos 0 <ℤ c → Within (z *ℤ c) (b *ℤ c) → Within z b
Within-cancel_above z b (pos n) h w = Within-cancel z b n (omega (arith, ints)) w
Within-cancel_above z b (negsuc n) h w = absurd (omega (arith, ints))

-- ---- from two inequalities, and back
module _ (A Q E U W n D : ℤ) where
  spread : (z : ℤ) → ((A +ℤ z *ℤ Q) *ℤ U) *ℤ D ≡ A *ℤ (U *ℤ D) +ℤ z *ℤ Q *ℤ (U *ℤ D)
  spread z = ring (A ∷ z ∷ Q ∷ U ∷ D ∷ []) (((v 0 ⊕ v 1 ⊗ v 2) ⊗ v 3) ⊗ v 4) (v 0 ⊗ (v 3 ⊗ v 4) ⊕ v 1 ⊗ v 2 ⊗ (v 3 ⊗ v 4)) tt

  turned : neg_ℤ E *ℤ Q *ℤ (U *ℤ D) ≡ neg_ℤ (E *ℤ Q *ℤ (U *ℤ D))
  turned = ring (E ∷ Q ∷ U ∷ D ∷ []) (minus (v 0) ⊗ v 1 ⊗ (v 2 ⊗ v 3)) (minus (v 0 ⊗ v 1 ⊗ (v 2 ⊗ v 3))) tt

  pub Apart-in : (((A +ℤ neg_ℤ E *ℤ Q) *ℤ U) *ℤ D) ≤ℤ (n *ℤ (Q *ℤ W)) → (n *ℤ (Q *ℤ W)) ≤ℤ (((A +ℤ E *ℤ Q) *ℤ U) *ℤ D) → Apart A Q E U W n D
  Apart-in l h =
      let a = spread (neg_ℤ E) in
      let b = spread E in
      let c = turned in
      record { within = record { low = omega (arith, lin); high = omega (arith, lin) } }

  pub Apart-low : Apart A Q E U W n D → (((A +ℤ neg_ℤ E *ℤ Q) *ℤ U) *ℤ D) ≤ℤ (n *ℤ (Q *ℤ W))
  Apart-low w =
      let a = spread (neg_ℤ E) in
      let c = turned in
      let l = w.within.low in omega (arith, lin)

  pub Apart-high : Apart A Q E U W n D → (n *ℤ (Q *ℤ W)) ≤ℤ (((A +ℤ E *ℤ Q) *ℤ U) *ℤ D)
  Apart-high w =
      let b = spread E in
      let h = w.within.high in omega (arith, lin)

  -- ---- at a greater degree, and back
  more_apart : (c : ℤ) → (n *ℤ (Q *ℤ W) -ℤ A *ℤ (U *ℤ D)) *ℤ c ≡ n *ℤ ((c *ℤ Q) *ℤ W) -ℤ (c *ℤ A) *ℤ (U *ℤ D)
  more_apart c = ring (A ∷ Q ∷ U ∷ W ∷ n ∷ D ∷ c ∷ []) ((v 4 ⊗ (v 1 ⊗ v 3) ⊖ v 0 ⊗ (v 2 ⊗ v 5)) ⊗ v 6) (v 4 ⊗ ((v 6 ⊗ v 1) ⊗ v 3) ⊖ (v 6 ⊗ v 0) ⊗ (v 2 ⊗ v 5)) tt

  more_bound : (c : ℤ) → (E *ℤ Q *ℤ (U *ℤ D)) *ℤ c ≡ E *ℤ (c *ℤ Q) *ℤ (U *ℤ D)
  more_bound c = ring (Q ∷ E ∷ U ∷ D ∷ c ∷ []) ((v 1 ⊗ v 0 ⊗ (v 2 ⊗ v 3)) ⊗ v 4) (v 1 ⊗ (v 4 ⊗ v 0) ⊗ (v 2 ⊗ v 3)) tt

  pub Apart-more : (c : ℤ) → pos 0 ≤ℤ c → Apart A Q E U W n D → Apart (c *ℤ A) (c *ℤ Q) E U W n D
  Apart-more c h w =
      record { within = Within-is _ _ _ _ (more_apart c) (more_bound c) (Within-scale (n *ℤ (Q *ℤ W) -ℤ A *ℤ (U *ℤ D)) (E *ℤ Q *ℤ (U *ℤ D)) c h w.within) }

  pub Apart-less : (c : ℤ) → pos 0 <ℤ c → Apart (c *ℤ A) (c *ℤ Q) E U W n D → Apart A Q E U W n D
  Apart-less c h w =
      record { within = Within-cancel_above (n *ℤ (Q *ℤ W) -ℤ A *ℤ (U *ℤ D)) (E *ℤ Q *ℤ (U *ℤ D)) c h (Within-is _ _ _ _ (sym (more_apart c)) (sym (more_bound c)) w.within) }

-- ---- with the exponent written in another way
pub Apart-exponent : (A Q E n D : ℤ) (u w u' w' : ℕ) → u + w' ≡ u' + w → Apart A Q E (pos (2 ^ u)) (pos (2 ^ w)) n D → Apart A Q E (pos (2 ^ u')) (pos (2 ^ w')) n D
Apart-exponent A Q E n D u w u' w' e x =
    let f : 2 ^ u * 2 ^ w' ≡ 2 ^ u' * 2 ^ w = sym (pow-add 2 u w') ∙ (ap (λ i. 2 ^ i) e ∙ pow-add 2 u' w) in
    let a : (n *ℤ (Q *ℤ pos (2 ^ w)) -ℤ A *ℤ (pos (2 ^ u) *ℤ D)) *ℤ pos (2 ^ w') ≡ n *ℤ (Q *ℤ pos (2 ^ w')) *ℤ pos (2 ^ w) -ℤ A *ℤ D *ℤ pos (2 ^ u * 2 ^ w') = ring (A ∷ Q ∷ n ∷ D ∷ pos (2 ^ u) ∷ pos (2 ^ w) ∷ pos (2 ^ w') ∷ []) ((v 2 ⊗ (v 1 ⊗ v 5) ⊖ v 0 ⊗ (v 4 ⊗ v 3)) ⊗ v 6) (v 2 ⊗ (v 1 ⊗ v 6) ⊗ v 5 ⊖ v 0 ⊗ v 3 ⊗ (v 4 ⊗ v 6)) tt in
    let b : n *ℤ (Q *ℤ pos (2 ^ w')) *ℤ pos (2 ^ w) -ℤ A *ℤ D *ℤ pos (2 ^ u' * 2 ^ w) ≡ (n *ℤ (Q *ℤ pos (2 ^ w')) -ℤ A *ℤ (pos (2 ^ u') *ℤ D)) *ℤ pos (2 ^ w) = ring (A ∷ Q ∷ n ∷ D ∷ pos (2 ^ u') ∷ pos (2 ^ w) ∷ pos (2 ^ w') ∷ []) (v 2 ⊗ (v 1 ⊗ v 6) ⊗ v 5 ⊖ v 0 ⊗ v 3 ⊗ (v 4 ⊗ v 5)) ((v 2 ⊗ (v 1 ⊗ v 6) ⊖ v 0 ⊗ (v 4 ⊗ v 3)) ⊗ v 5) tt in
    let c : (E *ℤ Q *ℤ (pos (2 ^ u) *ℤ D)) *ℤ pos (2 ^ w') ≡ E *ℤ Q *ℤ D *ℤ pos (2 ^ u * 2 ^ w') = ring (E ∷ Q ∷ D ∷ pos (2 ^ u) ∷ pos (2 ^ w') ∷ []) ((v 0 ⊗ v 1 ⊗ (v 3 ⊗ v 2)) ⊗ v 4) (v 0 ⊗ v 1 ⊗ v 2 ⊗ (v 3 ⊗ v 4)) tt in
    let d : E *ℤ Q *ℤ D *ℤ pos (2 ^ u' * 2 ^ w) ≡ (E *ℤ Q *ℤ (pos (2 ^ u') *ℤ D)) *ℤ pos (2 ^ w) = ring (E ∷ Q ∷ D ∷ pos (2 ^ u') ∷ pos (2 ^ w) ∷ []) (v 0 ⊗ v 1 ⊗ v 2 ⊗ (v 3 ⊗ v 4)) ((v 0 ⊗ v 1 ⊗ (v 3 ⊗ v 2)) ⊗ v 4) tt in
    let y = Within-scale (n *ℤ (Q *ℤ pos (2 ^ w)) -ℤ A *ℤ (pos (2 ^ u) *ℤ D)) (E *ℤ Q *ℤ (pos (2 ^ u) *ℤ D)) (pos (2 ^ w')) (omega (arith, lin)) x.within in
    record { within = Within-cancel (n *ℤ (Q *ℤ pos (2 ^ w')) -ℤ A *ℤ (pos (2 ^ u') *ℤ D)) (E *ℤ Q *ℤ (pos (2 ^ u') *ℤ D)) (2 ^ w) (pow_pos w) (Within-is _ _ _ _ (a ∙ (ap (λ m. n *ℤ (Q *ℤ pos (2 ^ w')) *ℤ pos (2 ^ w) -ℤ A *ℤ D *ℤ pos m) f ∙ b)) (c ∙ (ap (λ m. E *ℤ Q *ℤ D *ℤ pos m) f ∙ d)) y) }

-- ---- near a model, at a degree and an exponent u - w
abbrev pub NearAt : Model → ℤ → ℤ → ℕ → ℕ → ℕ → Fraction → Type 0
NearAt m p q d u w r = Apart (at p q d m.coefficients) (power q d) (pos m.error) (pos (2 ^ u)) (pos (2 ^ w)) r.numerator (pos r.denominator)

module _ (m : Model) (p q : ℤ) (r : Fraction) (g : IsArgument p q) where
  own : pos (unsigned_abs (power q (length m.coefficients))) ≡ power q (length m.coefficients)
  own = own-power q (length m.coefficients) g.positive

  beneath : r.numerator *ℤ pos (unsigned_abs (power q (length m.coefficients)) * 2 ^ down m.exponent) ≡ r.numerator *ℤ (power q (length m.coefficients) *ℤ pos (2 ^ down m.exponent))
  beneath = ap (λ z. r.numerator *ℤ (z *ℤ pos (2 ^ down m.exponent))) own

  own_near : IsNear m p q r → NearAt m p q (length m.coefficients) (up m.exponent) (down m.exponent) r
  own_near x =
      let e = beneath in
      let l = x.low in
      let h = x.high in
      Apart-in (at p q (length m.coefficients) m.coefficients) (power q (length m.coefficients)) (pos m.error) (pos (2 ^ up m.exponent)) (pos (2 ^ down m.exponent)) r.numerator (pos r.denominator) (omega (arith, lin)) (omega (arith, lin))

  near_own : IsFraction r → NearAt m p q (length m.coefficients) (up m.exponent) (down m.exponent) r → IsNear m p q r
  near_own f x =
      let e = beneath in
      let l = Apart-low (at p q (length m.coefficients) m.coefficients) (power q (length m.coefficients)) (pos m.error) (pos (2 ^ up m.exponent)) (pos (2 ^ down m.exponent)) r.numerator (pos r.denominator) x in
      let h = Apart-high (at p q (length m.coefficients) m.coefficients) (power q (length m.coefficients)) (pos m.error) (pos (2 ^ up m.exponent)) (pos (2 ^ down m.exponent)) r.numerator (pos r.denominator) x in
      record { is_fraction = f; low = omega (arith, lin); high = omega (arith, lin) }

  -- at a degree k past the last coefficient
  module _ (k : ℕ) where
    higher : at p q (k + length m.coefficients) m.coefficients ≡ power q k *ℤ at p q (length m.coefficients) m.coefficients
    higher = at-many p q k (length m.coefficients) m.coefficients (omega arith)

    raised_power : power q (k + length m.coefficients) ≡ power q k *ℤ power q (length m.coefficients)
    raised_power = power-add q k (length m.coefficients)

    up_to : (u w : ℕ) → NearAt m p q (length m.coefficients) u w r → NearAt m p q (k + length m.coefficients) u w r
    up_to u w x =
        let o : pos 1 ≤ℤ power q k = power-one q k g.positive in
        let y = Apart-more _ _ _ _ _ _ _ (power q k) (omega (arith, lin)) x in
        let z = subst (λ t. Apart t (power q k *ℤ power q (length m.coefficients)) (pos m.error) (pos (2 ^ u)) (pos (2 ^ w)) r.numerator (pos r.denominator)) (sym higher) y in
        subst (λ t. Apart (at p q (k + length m.coefficients) m.coefficients) t (pos m.error) (pos (2 ^ u)) (pos (2 ^ w)) r.numerator (pos r.denominator)) (sym raised_power) z

    down_from : (u w : ℕ) → NearAt m p q (k + length m.coefficients) u w r → NearAt m p q (length m.coefficients) u w r
    down_from u w x =
        let o : pos 1 ≤ℤ power q k = power-one q k g.positive in
        let y = subst (λ t. Apart (at p q (k + length m.coefficients) m.coefficients) t (pos m.error) (pos (2 ^ u)) (pos (2 ^ w)) r.numerator (pos r.denominator)) raised_power x in
        let z = subst (λ t. Apart t (power q k *ℤ power q (length m.coefficients)) (pos m.error) (pos (2 ^ u)) (pos (2 ^ w)) r.numerator (pos r.denominator)) higher y in
        Apart-less _ _ _ _ _ _ _ (power q k) (omega (arith, lin)) z

  pub near-at : (d u w : ℕ) → length m.coefficients ≤ d → up m.exponent + w ≡ u + down m.exponent → IsNear m p q r → NearAt m p q d u w r
  near-at d u w h e x =
      let s : (d - length m.coefficients) + length m.coefficients ≡ d = omega arith in
      subst (λ n. NearAt m p q n u w r) s (up_to (d - length m.coefficients) u w (Apart-exponent (at p q (length m.coefficients) m.coefficients) (power q (length m.coefficients)) (pos m.error) r.numerator (pos r.denominator) (up m.exponent) (down m.exponent) u w e (own_near x)))

  pub at-near : (d u w : ℕ) → length m.coefficients ≤ d → up m.exponent + w ≡ u + down m.exponent → IsFraction r → NearAt m p q d u w r → IsNear m p q r
  at-near d u w h e f x =
      let s : d ≡ (d - length m.coefficients) + length m.coefficients = omega arith in
      near_own f (Apart-exponent (at p q (length m.coefficients) m.coefficients) (power q (length m.coefficients)) (pos m.error) r.numerator (pos r.denominator) u w (up m.exponent) (down m.exponent) (omega arith) (down_from (d - length m.coefficients) u w (subst (λ n. NearAt m p q n u w r) s x)))
