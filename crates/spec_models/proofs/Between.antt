-- Numbers between others that are near a model, and numbers a little off one.
use Rattle.std.proofs.Common.{◌≡◌, ℕ, ◌+◌, ◌*◌, ◌^◌, ◌<◌, arith, refl, [], ◌∷◌, length, ℤ, pos, ◌+ℤ◌, ◌-ℤ◌, ◌*ℤ◌, neg_ℤ, ◌≤ℤ◌}
use borrow.Author.Differences.{up, down}
use Rattle.spec_numbers.specs.Numbers.{power}
use Rattle.spec_numbers.proofs.Ring.{v, ◌⊕◌, ◌⊖◌, ◌⊗◌, minus, ring}
use Rattle.spec_numbers.proofs.Order.{lin, le-mul, le-mul_cancel, natural}
use Rattle.spec_numbers.proofs.Whole.{nonneg-mul}
use Rattle.spec_numbers.proofs.Naturals.{positive_product}
use Rattle.spec_intervals.specs.Fraction.{Fraction, IsFraction, fraction_add, fraction_sub}
use Rattle.spec_chebyshev.specs.Differences.{IsArgument}
use Rattle.spec_models.specs.Ends.{NoMore, in_units, Under, Over}
use Rattle.spec_models.proofs.Ordered.{no_more_trans}
use Rattle.spec_models.specs.Models.{Model, at, IsNear, beside, widened}
use Rattle.spec_models.proofs.Nearness.{Apart-in, Apart-low, Apart-high, near-at, at-near}
use Rattle.spec_models.proofs.Bounds.{power0}

-- ---- fractions in order
-- ---- between two numbers near a model, and another form of one
pub near-between : (m : Model) (p q : ℤ) (a r b : Fraction) → IsFraction r → NoMore a r → NoMore r b → IsNear m p q a → IsNear m p q b → IsNear m p q r
near-between m p q a r b f h k x y = record {
  is_fraction = f;
  low = no_more_trans (beside (neg_ℤ (pos m.error)) m p q) a r x.is_fraction x.low h;
  high = no_more_trans r b (beside (pos m.error) m p q) y.is_fraction k y.high;
}

pub near-same : (m : Model) (p q : ℤ) (a b : Fraction) → IsFraction b → a.numerator *ℤ pos b.denominator ≡ b.numerator *ℤ pos a.denominator → IsNear m p q a → IsNear m p q b
near-same m p q a b f e x =
    near-between m p q a b a f (omega (arith, lin)) (omega (arith, lin)) x x

-- ---- a number z within d of r, where d is no more than G units
module _ (A Q E U W : ℤ) (rn : ℤ) (rd : ℕ) (zn : ℤ) (zd : ℕ) (dn : ℤ) (dd : ℕ) (G : ℤ) (q0 : pos 0 ≤ℤ Q) (w0 : pos 0 ≤ℤ W) (r0 : 0 < rd) (d0 : 0 < dd) (unit : (dn *ℤ W) ≤ℤ ((G *ℤ U) *ℤ pos dd)) where
  -- d in units, over all denominators
  spread : ((dn *ℤ W) *ℤ (pos rd *ℤ pos zd *ℤ Q)) ≤ℤ (((G *ℤ U) *ℤ pos dd) *ℤ (pos rd *ℤ pos zd *ℤ Q))
  spread = le-mul (dn *ℤ W) ((G *ℤ U) *ℤ pos dd) (pos rd *ℤ pos zd *ℤ Q) (nonneg-mul (pos rd *ℤ pos zd) Q (nonneg-mul (pos rd) (pos zd) (natural rd) (natural zd)) q0) unit

  off_low : ((rn *ℤ pos dd -ℤ dn *ℤ pos rd) *ℤ pos zd) ≤ℤ (zn *ℤ pos (rd * dd)) → (((A +ℤ neg_ℤ E *ℤ Q) *ℤ U) *ℤ pos rd) ≤ℤ (rn *ℤ (Q *ℤ W)) → (((A +ℤ neg_ℤ (E +ℤ G) *ℤ Q) *ℤ U) *ℤ pos zd) ≤ℤ (zn *ℤ (Q *ℤ W))
  off_low s l =
      let a = le-mul _ _ (Q *ℤ W) (nonneg-mul Q W q0 w0) s in
      let b = le-mul _ _ (pos dd *ℤ pos zd) (nonneg-mul (pos dd) (pos zd) (natural dd) (natural zd)) l in
      let c = spread in
      let e : (rn *ℤ pos dd -ℤ dn *ℤ pos rd) *ℤ pos zd *ℤ (Q *ℤ W) ≡ rn *ℤ (Q *ℤ W) *ℤ (pos dd *ℤ pos zd) -ℤ (dn *ℤ W) *ℤ (pos rd *ℤ pos zd *ℤ Q) = ring (rn ∷ pos rd ∷ pos zd ∷ dn ∷ pos dd ∷ Q ∷ W ∷ []) ((v 0 ⊗ v 4 ⊖ v 3 ⊗ v 1) ⊗ v 2 ⊗ (v 5 ⊗ v 6)) (v 0 ⊗ (v 5 ⊗ v 6) ⊗ (v 4 ⊗ v 2) ⊖ (v 3 ⊗ v 6) ⊗ (v 1 ⊗ v 2 ⊗ v 5)) tt in
      let f : ((A +ℤ neg_ℤ (E +ℤ G) *ℤ Q) *ℤ U) *ℤ pos zd *ℤ pos (rd * dd) ≡ ((A +ℤ neg_ℤ E *ℤ Q) *ℤ U) *ℤ pos rd *ℤ (pos dd *ℤ pos zd) -ℤ ((G *ℤ U) *ℤ pos dd) *ℤ (pos rd *ℤ pos zd *ℤ Q) = ring (A ∷ E ∷ G ∷ Q ∷ U ∷ pos rd ∷ pos zd ∷ pos dd ∷ []) (((v 0 ⊕ minus (v 1 ⊕ v 2) ⊗ v 3) ⊗ v 4) ⊗ v 6 ⊗ (v 5 ⊗ v 7)) (((v 0 ⊕ minus (v 1) ⊗ v 3) ⊗ v 4) ⊗ v 5 ⊗ (v 7 ⊗ v 6) ⊖ ((v 2 ⊗ v 4) ⊗ v 7) ⊗ (v 5 ⊗ v 6 ⊗ v 3)) tt in
      let g : zn *ℤ (Q *ℤ W) *ℤ pos (rd * dd) ≡ zn *ℤ pos (rd * dd) *ℤ (Q *ℤ W) = ring (zn ∷ Q ∷ W ∷ pos (rd * dd) ∷ []) (v 0 ⊗ (v 1 ⊗ v 2) ⊗ v 3) (v 0 ⊗ v 3 ⊗ (v 1 ⊗ v 2)) tt in
      le-mul_cancel (((A +ℤ neg_ℤ (E +ℤ G) *ℤ Q) *ℤ U) *ℤ pos zd) (zn *ℤ (Q *ℤ W)) (rd * dd) (positive_product rd dd r0 d0) (omega (arith, lin))

  off_high : (zn *ℤ pos (rd * dd)) ≤ℤ ((rn *ℤ pos dd +ℤ dn *ℤ pos rd) *ℤ pos zd) → (rn *ℤ (Q *ℤ W)) ≤ℤ (((A +ℤ E *ℤ Q) *ℤ U) *ℤ pos rd) → (zn *ℤ (Q *ℤ W)) ≤ℤ (((A +ℤ (E +ℤ G) *ℤ Q) *ℤ U) *ℤ pos zd)
  off_high s h =
      let a = le-mul _ _ (Q *ℤ W) (nonneg-mul Q W q0 w0) s in
      let b = le-mul _ _ (pos dd *ℤ pos zd) (nonneg-mul (pos dd) (pos zd) (natural dd) (natural zd)) h in
      let c = spread in
      let e : (rn *ℤ pos dd +ℤ dn *ℤ pos rd) *ℤ pos zd *ℤ (Q *ℤ W) ≡ rn *ℤ (Q *ℤ W) *ℤ (pos dd *ℤ pos zd) +ℤ (dn *ℤ W) *ℤ (pos rd *ℤ pos zd *ℤ Q) = ring (rn ∷ pos rd ∷ pos zd ∷ dn ∷ pos dd ∷ Q ∷ W ∷ []) ((v 0 ⊗ v 4 ⊕ v 3 ⊗ v 1) ⊗ v 2 ⊗ (v 5 ⊗ v 6)) (v 0 ⊗ (v 5 ⊗ v 6) ⊗ (v 4 ⊗ v 2) ⊕ (v 3 ⊗ v 6) ⊗ (v 1 ⊗ v 2 ⊗ v 5)) tt in
      let f : ((A +ℤ (E +ℤ G) *ℤ Q) *ℤ U) *ℤ pos zd *ℤ pos (rd * dd) ≡ ((A +ℤ E *ℤ Q) *ℤ U) *ℤ pos rd *ℤ (pos dd *ℤ pos zd) +ℤ ((G *ℤ U) *ℤ pos dd) *ℤ (pos rd *ℤ pos zd *ℤ Q) = ring (A ∷ E ∷ G ∷ Q ∷ U ∷ pos rd ∷ pos zd ∷ pos dd ∷ []) (((v 0 ⊕ (v 1 ⊕ v 2) ⊗ v 3) ⊗ v 4) ⊗ v 6 ⊗ (v 5 ⊗ v 7)) (((v 0 ⊕ v 1 ⊗ v 3) ⊗ v 4) ⊗ v 5 ⊗ (v 7 ⊗ v 6) ⊕ ((v 2 ⊗ v 4) ⊗ v 7) ⊗ (v 5 ⊗ v 6 ⊗ v 3)) tt in
      let g : zn *ℤ (Q *ℤ W) *ℤ pos (rd * dd) ≡ zn *ℤ pos (rd * dd) *ℤ (Q *ℤ W) = ring (zn ∷ Q ∷ W ∷ pos (rd * dd) ∷ []) (v 0 ⊗ (v 1 ⊗ v 2) ⊗ v 3) (v 0 ⊗ v 3 ⊗ (v 1 ⊗ v 2)) tt in
      le-mul_cancel (zn *ℤ (Q *ℤ W)) (((A +ℤ (E +ℤ G) *ℤ Q) *ℤ U) *ℤ pos zd) (rd * dd) (positive_product rd dd r0 d0) (omega (arith, lin))

pub near-off : (m : Model) (p q : ℤ) (e : ℕ) (r z d : Fraction) → IsArgument p q → IsFraction z → IsFraction d → NoMore d (in_units (pos e) m.exponent) → NoMore (fraction_sub r d) z → NoMore z (fraction_add r d) → IsNear m p q r → IsNear (widened e m) p q z
near-off m p q e r z d g fz fd unit l h x =
    let a = near-at m p q r g (length m.coefficients) (up m.exponent) (down m.exponent) (omega arith) refl x in
    let lo = Apart-low (at p q (length m.coefficients) m.coefficients) (power q (length m.coefficients)) (pos m.error) (pos (2 ^ up m.exponent)) (pos (2 ^ down m.exponent)) r.numerator (pos r.denominator) a in
    let hi = Apart-high (at p q (length m.coefficients) m.coefficients) (power q (length m.coefficients)) (pos m.error) (pos (2 ^ up m.exponent)) (pos (2 ^ down m.exponent)) r.numerator (pos r.denominator) a in
    let lo' = off_low (at p q (length m.coefficients) m.coefficients) (power q (length m.coefficients)) (pos m.error) (pos (2 ^ up m.exponent)) (pos (2 ^ down m.exponent)) r.numerator r.denominator z.numerator z.denominator d.numerator d.denominator (pos e) (power0 p q (length m.coefficients) g) (natural (2 ^ down m.exponent)) x.is_fraction fd unit l lo in
    let hi' = off_high (at p q (length m.coefficients) m.coefficients) (power q (length m.coefficients)) (pos m.error) (pos (2 ^ up m.exponent)) (pos (2 ^ down m.exponent)) r.numerator r.denominator z.numerator z.denominator d.numerator d.denominator (pos e) (power0 p q (length m.coefficients) g) (natural (2 ^ down m.exponent)) x.is_fraction fd unit h hi in
    at-near (widened e m) p q z g (length m.coefficients) (up m.exponent) (down m.exponent) (omega arith) refl fz (Apart-in (at p q (length m.coefficients) m.coefficients) (power q (length m.coefficients)) (pos (m.error + e)) (pos (2 ^ up m.exponent)) (pos (2 ^ down m.exponent)) z.numerator (pos z.denominator) lo' hi')

-- r - d <= z <= r, so z <= r + d, and the same from above: compared over the divisors of all three
module _ (d z r : Fraction) where
  regrouped : z.numerator *ℤ pos (r.denominator * d.denominator) ≡ z.numerator *ℤ pos r.denominator *ℤ pos d.denominator
  regrouped = ring (z.numerator ∷ pos r.denominator ∷ pos d.denominator ∷ []) (v 0 ⊗ (v 1 ⊗ v 2)) (v 0 ⊗ v 1 ⊗ v 2) tt

  lessened : (r.numerator *ℤ pos d.denominator -ℤ d.numerator *ℤ pos r.denominator) *ℤ pos z.denominator
      ≡ r.numerator *ℤ pos z.denominator *ℤ pos d.denominator -ℤ d.numerator *ℤ pos r.denominator *ℤ pos z.denominator
  lessened =
      ring (r.numerator ∷ pos r.denominator ∷ d.numerator ∷ pos d.denominator ∷ pos z.denominator ∷ [])
      ((v 0 ⊗ v 3 ⊖ v 2 ⊗ v 1) ⊗ v 4) (v 0 ⊗ v 4 ⊗ v 3 ⊖ v 2 ⊗ v 1 ⊗ v 4) tt

  increased : (r.numerator *ℤ pos d.denominator +ℤ d.numerator *ℤ pos r.denominator) *ℤ pos z.denominator
      ≡ r.numerator *ℤ pos z.denominator *ℤ pos d.denominator +ℤ d.numerator *ℤ pos r.denominator *ℤ pos z.denominator
  increased =
      ring (r.numerator ∷ pos r.denominator ∷ d.numerator ∷ pos d.denominator ∷ pos z.denominator ∷ [])
      ((v 0 ⊗ v 3 ⊕ v 2 ⊗ v 1) ⊗ v 4) (v 0 ⊗ v 4 ⊗ v 3 ⊕ v 2 ⊗ v 1 ⊗ v 4) tt

  under_over : NoMore (fraction_sub r d) z → NoMore z r → NoMore z (fraction_add r d)
  under_over l h =
      let a = le-mul (z.numerator *ℤ pos r.denominator) (r.numerator *ℤ pos z.denominator) (pos d.denominator) (natural d.denominator) h in
      omega (arith, lin, regrouped, lessened, increased)

  over_under : NoMore z (fraction_add r d) → NoMore r z → NoMore (fraction_sub r d) z
  over_under h l =
      let a = le-mul (r.numerator *ℤ pos z.denominator) (z.numerator *ℤ pos r.denominator) (pos d.denominator) (natural d.denominator) l in
      omega (arith, lin, regrouped, lessened, increased)

pub near-under : (m : Model) (p q : ℤ) (e : ℕ) (r z d : Fraction) → IsArgument p q → IsFraction z → IsFraction d → NoMore d (in_units (pos e) m.exponent) → Under d z r → IsNear m p q r → IsNear (widened e m) p q z
near-under m p q e r z d g fz fd unit h x =
    near-off m p q e r z d g fz fd unit h.near (under_over d z r h.near h.below) x

pub near-over : (m : Model) (p q : ℤ) (e : ℕ) (r z d : Fraction) → IsArgument p q → IsFraction z → IsFraction d → NoMore d (in_units (pos e) m.exponent) → Over d z r → IsNear m p q r → IsNear (widened e m) p q z
near-over m p q e r z d g fz fd unit h x =
    near-off m p q e r z d g fz fd unit (over_under d z r h.near h.above) h.near x
