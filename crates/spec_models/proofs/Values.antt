-- Models of single numbers, of the argument and of lines; how great a number near a model is, and how far from those at
-- another argument; the polynomial's own value, from its last coefficient to its first.
use Rattle.std.proofs.Common.{◌≡◌, ℕ, suc, ◌+◌, ◌*◌, ◌^◌, ◌<◌, arith, refl, sym, ap, subst, ◌∙◌, List, [], ◌∷◌, length, ℤ, pos, ◌+ℤ◌, ◌-ℤ◌, ◌*ℤ◌, neg_ℤ, ◌≤ℤ◌, ◌<ℤ◌, unsigned_abs}
use Rattle.std.proofs.lemmas.Int.{ints}
use Rattle.std.proofs.lemmas.Nat.{pow_pos}
use borrow.Author.Differences.{up, down}
use Rattle.spec_numbers.specs.Numbers.{power}
use Rattle.spec_numbers.proofs.Ring.{v, k as lit, ◌⊕◌, ◌⊖◌, ◌⊗◌, minus, ring}
use Rattle.spec_numbers.proofs.Order.{lin, le-mul, natural}
use Rattle.spec_numbers.proofs.Whole.{nonneg-mul}
use Rattle.spec_numbers.proofs.Naturals.{positive_product}
use Rattle.spec_numbers.proofs.Sizes.{own_size}
use Rattle.spec_intervals.specs.Fraction.{Fraction, fraction, IsFraction, fraction_add, fraction_mul}
use Rattle.spec_chebyshev.specs.Differences.{IsArgument, Within}
use Rattle.spec_chebyshev.proofs.Sizes.{Within-mul, Within-add}
use Rattle.spec_models.specs.Ends.{NoMore, in_units}
use Rattle.spec_models.specs.Models.{Model, model, at, IsNear, value, widened, sizes, bulk, slope, constant, argument}
use Rattle.spec_models.proofs.Bounds.{Within-more, Within-is, Within-scale, Within-at, Within-moved, power0}
use Rattle.spec_models.proofs.Nearness.{Apart, Apart-in, Apart-low, Apart-high, Apart-more, Apart-less, near-at, at-near, power-one, own-power, Within-cancel_above}
use Rattle.spec_models.proofs.Operations.{Apart-is, Apart-moved}
use Rattle.spec_models.proofs.Made.{near-sum, near-product}
use Rattle.spec_models.proofs.Between.{near-same, near-off}

pub own-argument : (p q : ℤ) → IsArgument p q → pos (unsigned_abs q) ≡ q
own-argument p q g = own_size q (power-one-itself g.positive)
  where
    power-one-itself : pos 0 <ℤ q → pos 1 ≤ℤ q
    power-one-itself h = omega (arith, lin)

-- over plain numbers: p / q times n / D
Apart-shifted : (A Q E U W n D p q : ℤ) → pos 0 ≤ℤ (E *ℤ Q *ℤ (U *ℤ D)) → IsArgument p q → Apart A Q E U W n D → Apart (p *ℤ A) (q *ℤ Q) E U W (p *ℤ n) (q *ℤ D)
Apart-shifted A Q E U W n D p q b0 g x =
    let p0 = g.positive in
    let q0 : pos 0 ≤ℤ q = omega (arith, lin) in
    let s = Within-scale (n *ℤ (Q *ℤ W) -ℤ A *ℤ (U *ℤ D)) (E *ℤ Q *ℤ (U *ℤ D)) q q0 x.within in
    let t = Within-mul p ((n *ℤ (Q *ℤ W) -ℤ A *ℤ (U *ℤ D)) *ℤ q) q ((E *ℤ Q *ℤ (U *ℤ D)) *ℤ q) q0 (nonneg-mul (E *ℤ Q *ℤ (U *ℤ D)) q b0 q0) (record { low = g.low; high = g.high }) s in
    record { within = Within-is _ _ _ _ (ring (A ∷ Q ∷ U ∷ W ∷ n ∷ D ∷ p ∷ q ∷ []) (v 6 ⊗ ((v 4 ⊗ (v 1 ⊗ v 3) ⊖ v 0 ⊗ (v 2 ⊗ v 5)) ⊗ v 7)) ((v 6 ⊗ v 4) ⊗ ((v 7 ⊗ v 1) ⊗ v 3) ⊖ (v 6 ⊗ v 0) ⊗ (v 2 ⊗ (v 7 ⊗ v 5))) tt) (ring (E ∷ Q ∷ U ∷ D ∷ q ∷ []) (v 4 ⊗ ((v 0 ⊗ v 1 ⊗ (v 2 ⊗ v 3)) ⊗ v 4)) (v 0 ⊗ (v 4 ⊗ v 1) ⊗ (v 2 ⊗ (v 4 ⊗ v 3))) tt) t }

module _ (p q : ℤ) (g : IsArgument p q) where
  -- ---- a single number
  single : (a : ℤ) → a *ℤ (q *ℤ pos 1) +ℤ p *ℤ pos 0 ≡ q *ℤ a
  single a = ring (p ∷ q ∷ a ∷ []) (v 2 ⊗ (v 1 ⊗ lit (pos 1)) ⊕ v 0 ⊗ lit (pos 0)) (v 1 ⊗ v 2) tt

  pub near-constant : (a : ℤ) (e : ℕ) (s : ℤ) (r : Fraction) → IsFraction r → NoMore (in_units (a -ℤ pos e) s) r → NoMore r (in_units (a +ℤ pos e) s) → IsNear (constant a e s) p q r
  near-constant a e s r f l h =
      let p0 = g.positive in
      let i : ((a +ℤ neg_ℤ (pos e) *ℤ pos 1) *ℤ pos (2 ^ up s)) *ℤ pos r.denominator ≡ ((a -ℤ pos e) *ℤ pos (2 ^ up s)) *ℤ pos r.denominator = ring (a ∷ pos e ∷ pos (2 ^ up s) ∷ pos r.denominator ∷ []) (((v 0 ⊕ minus (v 1) ⊗ lit (pos 1)) ⊗ v 2) ⊗ v 3) (((v 0 ⊖ v 1) ⊗ v 2) ⊗ v 3) tt in
      let j : ((a +ℤ pos e *ℤ pos 1) *ℤ pos (2 ^ up s)) *ℤ pos r.denominator ≡ ((a +ℤ pos e) *ℤ pos (2 ^ up s)) *ℤ pos r.denominator = ring (a ∷ pos e ∷ pos (2 ^ up s) ∷ pos r.denominator ∷ []) (((v 0 ⊕ v 1 ⊗ lit (pos 1)) ⊗ v 2) ⊗ v 3) (((v 0 ⊕ v 1) ⊗ v 2) ⊗ v 3) tt in
      let k : r.numerator *ℤ (pos 1 *ℤ pos (2 ^ down s)) ≡ r.numerator *ℤ pos (2 ^ down s) = ring (r.numerator ∷ pos (2 ^ down s) ∷ []) (v 0 ⊗ (lit (pos 1) ⊗ v 1)) (v 0 ⊗ v 1) tt in
      let x : Apart a (pos 1) (pos e) (pos (2 ^ up s)) (pos (2 ^ down s)) r.numerator (pos r.denominator) = Apart-in a (pos 1) (pos e) (pos (2 ^ up s)) (pos (2 ^ down s)) r.numerator (pos r.denominator) (omega (arith, lin)) (omega (arith, lin)) in
      let y = Apart-more a (pos 1) (pos e) (pos (2 ^ up s)) (pos (2 ^ down s)) r.numerator (pos r.denominator) q (omega (arith, lin)) x in
      at-near (constant a e s) p q r g 1 (up s) (down s) (omega arith) refl f (subst (λ t. Apart t (q *ℤ pos 1) (pos e) (pos (2 ^ up s)) (pos (2 ^ down s)) r.numerator (pos r.denominator)) (sym (single a)) y)

  -- and back
  pub constant-bounds : (a : ℤ) (e : ℕ) (s : ℤ) (r : Fraction) → IsNear (constant a e s) p q r → (NoMore (in_units (a -ℤ pos e) s) r) × (NoMore r (in_units (a +ℤ pos e) s))
  constant-bounds a e s r x =
      let p0 = g.positive in
      let y = near-at (constant a e s) p q r g 1 (up s) (down s) (omega arith) refl x in
      let z : Apart (q *ℤ a) (q *ℤ pos 1) (pos e) (pos (2 ^ up s)) (pos (2 ^ down s)) r.numerator (pos r.denominator) = subst (λ t. Apart t (q *ℤ pos 1) (pos e) (pos (2 ^ up s)) (pos (2 ^ down s)) r.numerator (pos r.denominator)) (single a) y in
      let w : Apart a (pos 1) (pos e) (pos (2 ^ up s)) (pos (2 ^ down s)) r.numerator (pos r.denominator) = Apart-less a (pos 1) (pos e) (pos (2 ^ up s)) (pos (2 ^ down s)) r.numerator (pos r.denominator) q p0 z in
      let i : ((a +ℤ neg_ℤ (pos e) *ℤ pos 1) *ℤ pos (2 ^ up s)) *ℤ pos r.denominator ≡ ((a -ℤ pos e) *ℤ pos (2 ^ up s)) *ℤ pos r.denominator = ring (a ∷ pos e ∷ pos (2 ^ up s) ∷ pos r.denominator ∷ []) (((v 0 ⊕ minus (v 1) ⊗ lit (pos 1)) ⊗ v 2) ⊗ v 3) (((v 0 ⊖ v 1) ⊗ v 2) ⊗ v 3) tt in
      let j : ((a +ℤ pos e *ℤ pos 1) *ℤ pos (2 ^ up s)) *ℤ pos r.denominator ≡ ((a +ℤ pos e) *ℤ pos (2 ^ up s)) *ℤ pos r.denominator = ring (a ∷ pos e ∷ pos (2 ^ up s) ∷ pos r.denominator ∷ []) (((v 0 ⊕ v 1 ⊗ lit (pos 1)) ⊗ v 2) ⊗ v 3) (((v 0 ⊕ v 1) ⊗ v 2) ⊗ v 3) tt in
      let k : r.numerator *ℤ (pos 1 *ℤ pos (2 ^ down s)) ≡ r.numerator *ℤ pos (2 ^ down s) = ring (r.numerator ∷ pos (2 ^ down s) ∷ []) (v 0 ⊗ (lit (pos 1) ⊗ v 1)) (v 0 ⊗ v 1) tt in
      let lo = Apart-low a (pos 1) (pos e) (pos (2 ^ up s)) (pos (2 ^ down s)) r.numerator (pos r.denominator) w in
      let hi = Apart-high a (pos 1) (pos e) (pos (2 ^ up s)) (pos (2 ^ down s)) r.numerator (pos r.denominator) w in
      (omega (arith, lin), omega (arith, lin))

  -- near one number, and so near another
  pub constant-other : (a b : ℤ) (e : ℕ) (s : ℤ) (r : Fraction) → IsNear (constant a e s) p q r → IsNear (constant b (unsigned_abs (a -ℤ b) + e) s) p q r
  constant-other a b e s r x =
      let w = constant-bounds a e s r x in
      let l = w.0 in
      let h = w.1 in
      let n : (y z : ℤ) → y ≤ℤ z → ((y *ℤ pos (2 ^ up s)) *ℤ pos r.denominator) ≤ℤ ((z *ℤ pos (2 ^ up s)) *ℤ pos r.denominator) = λ y z k. le-mul (y *ℤ pos (2 ^ up s)) (z *ℤ pos (2 ^ up s)) (pos r.denominator) (natural r.denominator) (le-mul y z (pos (2 ^ up s)) (natural (2 ^ up s)) k) in
      let i = n (b -ℤ pos (unsigned_abs (a -ℤ b) + e)) (a -ℤ pos e) (omega (arith, ints)) in
      let j = n (a +ℤ pos e) (b +ℤ pos (unsigned_abs (a -ℤ b) + e)) (omega (arith, ints)) in
      near-constant b (unsigned_abs (a -ℤ b) + e) s r x.is_fraction (omega (arith, lin)) (omega (arith, lin))

  -- the product of two
  pub constant-product : (a b : ℤ) (e f : ℕ) (s t : ℤ) (r z : Fraction) → IsNear (constant a e s) p q r → IsNear (constant b f t) p q z → IsNear (constant (a *ℤ b) (unsigned_abs a * f + unsigned_abs b * e + e * f) (s +ℤ t)) p q (fraction_mul r z)
  constant-product a b e f s t r z x y =
      let w : IsNear (model ((a *ℤ b +ℤ pos 0) ∷ []) ((unsigned_abs a + 0) * f + (unsigned_abs b + 0) * e + e * f) (s +ℤ t)) p q (fraction_mul r z) = near-product p q g (constant a e s) (constant b f t) r z x y in
      let c : a *ℤ b +ℤ pos 0 ≡ a *ℤ b = ring ((a *ℤ b) ∷ []) (v 0 ⊕ lit (pos 0)) (v 0) tt in
      let i : unsigned_abs a + 0 ≡ unsigned_abs a = omega arith in
      let j : unsigned_abs b + 0 ≡ unsigned_abs b = omega arith in
      subst (λ n. IsNear (constant (a *ℤ b) (unsigned_abs a * f + n * e + e * f) (s +ℤ t)) p q (fraction_mul r z)) j (subst (λ n. IsNear (constant (a *ℤ b) (n * f + (unsigned_abs b + 0) * e + e * f) (s +ℤ t)) p q (fraction_mul r z)) i (subst (λ n. IsNear (constant n ((unsigned_abs a + 0) * f + (unsigned_abs b + 0) * e + e * f) (s +ℤ t)) p q (fraction_mul r z)) c w))

  -- ---- the argument times what is modelled
  pub near-shifted : (xs : List ℤ) (e : ℕ) (s : ℤ) (r : Fraction) → IsNear (model xs e s) p q r → IsNear (model (pos 0 ∷ xs) e s) p q (fraction_mul (fraction p (unsigned_abs q)) r)
  near-shifted xs e s r x =
      let y = near-at (model xs e s) p q r g (length xs) (up s) (down s) (omega arith) refl x in
      let b0 : pos 0 ≤ℤ (pos e *ℤ power q (length xs) *ℤ (pos (2 ^ up s) *ℤ pos r.denominator)) = nonneg-mul (pos e *ℤ power q (length xs)) (pos (2 ^ up s) *ℤ pos r.denominator) (nonneg-mul (pos e) (power q (length xs)) (natural e) (power0 p q (length xs) g)) (nonneg-mul (pos (2 ^ up s)) (pos r.denominator) (natural (2 ^ up s)) (natural r.denominator)) in
      let z = Apart-shifted (at p q (length xs) xs) (power q (length xs)) (pos e) (pos (2 ^ up s)) (pos (2 ^ down s)) r.numerator (pos r.denominator) p q b0 g y in
      let h : p *ℤ at p q (length xs) xs ≡ pos 0 *ℤ power q (suc (length xs)) +ℤ p *ℤ at p q (length xs) xs = ring (power q (suc (length xs)) ∷ (p *ℤ at p q (length xs) xs) ∷ []) (v 1) (lit (pos 0) ⊗ v 0 ⊕ v 1) tt in
      let o : pos (unsigned_abs q) ≡ q = own-argument p q g in
      let i : q *ℤ pos r.denominator ≡ pos (unsigned_abs q * r.denominator) = ap (λ t. t *ℤ pos r.denominator) (sym o) in
      let p0 = g.positive in
      let u : 0 < unsigned_abs q = omega (arith, ints) in
      at-near (model (pos 0 ∷ xs) e s) p q (fraction_mul (fraction p (unsigned_abs q)) r) g (suc (length xs)) (up s) (down s) (omega arith) refl (positive_product (unsigned_abs q) r.denominator u x.is_fraction) (Apart-is _ _ _ _ _ _ _ (at p q (suc (length xs)) (pos 0 ∷ xs)) (power q (suc (length xs))) (pos e) (pos (2 ^ up s)) (pos (2 ^ down s)) (p *ℤ r.numerator) (pos (unsigned_abs q * r.denominator)) h refl refl refl refl refl i z)

  above : 0 < unsigned_abs q
  above = let p0 = g.positive in omega (arith, ints)

  pub near-argument : IsNear argument p q (fraction p (unsigned_abs q))
  near-argument =
      let a : IsNear (constant (pos 1) 0 (pos 0)) p q (fraction (pos 1) 1) = near-constant (pos 1) 0 (pos 0) (fraction (pos 1) 1) (omega arith) (omega (arith, ints)) (omega (arith, ints)) in
      near-same argument p q (fraction_mul (fraction p (unsigned_abs q)) (fraction (pos 1) 1)) (fraction p (unsigned_abs q)) above (ring (p ∷ pos (unsigned_abs q) ∷ []) ((v 0 ⊗ lit (pos 1)) ⊗ v 1) (v 0 ⊗ (v 1 ⊗ lit (pos 1))) tt) (near-shifted (pos 1 ∷ []) 0 (pos 0) (fraction (pos 1) 1) a)

  -- ---- a line: (a + b p) / c
  pub near-line : (a b : ℤ) (c : ℕ) (x y : ℤ) (e f : ℕ) (s : ℤ) → 0 < c → IsNear (constant x e s) p q (fraction a c) → IsNear (constant y f s) p q (fraction (b *ℤ q) c) → IsNear (model (x ∷ y ∷ []) (e + f) s) p q (fraction (a +ℤ b *ℤ p) c)
  near-line a b c x y e f s c0 h k =
      let o : pos (unsigned_abs q) ≡ q = own-argument p q g in
      let t : IsNear (model ((x +ℤ pos 0) ∷ y ∷ []) (e + f) s) p q (fraction_add (fraction a c) (fraction_mul (fraction p (unsigned_abs q)) (fraction (b *ℤ q) c))) = near-sum p q g (constant x e s) (model (pos 0 ∷ y ∷ []) f s) (fraction a c) (fraction_mul (fraction p (unsigned_abs q)) (fraction (b *ℤ q) c)) refl h (near-shifted (y ∷ []) f s (fraction (b *ℤ q) c) k) in
      let z : x +ℤ pos 0 ≡ x = ring (x ∷ []) (v 0 ⊕ lit (pos 0)) (v 0) tt in
      let w : (a *ℤ (pos (unsigned_abs q) *ℤ pos c) +ℤ (p *ℤ (b *ℤ q)) *ℤ pos c) *ℤ pos c ≡ (a +ℤ b *ℤ p) *ℤ (pos c *ℤ (pos (unsigned_abs q) *ℤ pos c)) = ap (λ t. (a *ℤ (t *ℤ pos c) +ℤ (p *ℤ (b *ℤ q)) *ℤ pos c) *ℤ pos c) o ∙ (ring (a ∷ b ∷ p ∷ q ∷ pos c ∷ []) ((v 0 ⊗ (v 3 ⊗ v 4) ⊕ (v 2 ⊗ (v 1 ⊗ v 3)) ⊗ v 4) ⊗ v 4) ((v 0 ⊕ v 1 ⊗ v 2) ⊗ (v 4 ⊗ (v 3 ⊗ v 4))) tt ∙ ap (λ t. (a +ℤ b *ℤ p) *ℤ (pos c *ℤ (t *ℤ pos c))) (sym o)) in
      near-same (model (x ∷ y ∷ []) (e + f) s) p q (fraction_add (fraction a c) (fraction_mul (fraction p (unsigned_abs q)) (fraction (b *ℤ q) c))) (fraction (a +ℤ b *ℤ p) c) c0 w (subst (λ i. IsNear (model (i ∷ y ∷ []) (e + f) s) p q (fraction_add (fraction a c) (fraction_mul (fraction p (unsigned_abs q)) (fraction (b *ℤ q) c)))) z t)

  -- ---- how great a number near a model is
  bulk-within : (m : Model) (r : Fraction) → IsNear m p q r → Within (r.numerator *ℤ pos (2 ^ down m.exponent)) ((pos (bulk m) *ℤ pos (2 ^ up m.exponent)) *ℤ pos r.denominator)
  bulk-within m r x =
      let y = near-at m p q r g (length m.coefficients) (up m.exponent) (down m.exponent) (omega arith) refl x in
      let c0 : pos 0 ≤ℤ (pos (2 ^ up m.exponent) *ℤ pos r.denominator) = nonneg-mul (pos (2 ^ up m.exponent)) (pos r.denominator) (natural (2 ^ up m.exponent)) (natural r.denominator) in
      let a = Within-scale _ _ (pos (2 ^ up m.exponent) *ℤ pos r.denominator) c0 (Within-at p q (length m.coefficients) m.coefficients g) in
      let s = Within-add _ _ _ _ y.within a in
      let o : pos 1 ≤ℤ power q (length m.coefficients) = power-one q (length m.coefficients) g.positive in
      Within-cancel_above _ _ (power q (length m.coefficients)) (omega (arith, lin)) (Within-is _ _ _ _ (ring (at p q (length m.coefficients) m.coefficients ∷ power q (length m.coefficients) ∷ pos (2 ^ up m.exponent) ∷ pos (2 ^ down m.exponent) ∷ r.numerator ∷ pos r.denominator ∷ []) ((v 4 ⊗ (v 1 ⊗ v 3) ⊖ v 0 ⊗ (v 2 ⊗ v 5)) ⊕ v 0 ⊗ (v 2 ⊗ v 5)) ((v 4 ⊗ v 3) ⊗ v 1) tt) (ring (pos (sizes m.coefficients) ∷ pos m.error ∷ power q (length m.coefficients) ∷ pos (2 ^ up m.exponent) ∷ pos r.denominator ∷ []) (v 1 ⊗ v 2 ⊗ (v 3 ⊗ v 4) ⊕ v 0 ⊗ v 2 ⊗ (v 3 ⊗ v 4)) ((((v 0 ⊕ v 1) ⊗ v 3) ⊗ v 4) ⊗ v 2) tt) s)

  pub near-above : (m : Model) (r : Fraction) → IsNear m p q r → NoMore (in_units (neg_ℤ (pos (bulk m))) m.exponent) r
  near-above m r x =
      let w = (bulk-within m r x).low in
      let e : neg_ℤ ((pos (bulk m) *ℤ pos (2 ^ up m.exponent)) *ℤ pos r.denominator) ≡ (neg_ℤ (pos (bulk m)) *ℤ pos (2 ^ up m.exponent)) *ℤ pos r.denominator = ring (pos (bulk m) ∷ pos (2 ^ up m.exponent) ∷ pos r.denominator ∷ []) (minus ((v 0 ⊗ v 1) ⊗ v 2)) ((minus (v 0) ⊗ v 1) ⊗ v 2) tt in
      omega (arith, lin)

  pub near-below : (m : Model) (r : Fraction) → IsNear m p q r → NoMore r (in_units (pos (bulk m)) m.exponent)
  near-below m r x = (bulk-within m r x).high

  -- ---- near the same model at another argument
  pub near-moved : (m : Model) (o : ℤ) (e : ℕ) (r : Fraction) → IsArgument o q → pos (unsigned_abs (p -ℤ o) * slope m.coefficients) ≤ℤ (pos e *ℤ q) → IsNear m p q r → IsNear (widened e m) o q r
  near-moved m o e r g' h x =
      let y = near-at m p q r g (length m.coefficients) (up m.exponent) (down m.exponent) (omega arith) refl x in
      let Q0 : pos 0 ≤ℤ power q (length m.coefficients) = power0 p q (length m.coefficients) g in
      let l : (pos (unsigned_abs (p -ℤ o) * slope m.coefficients) *ℤ power q (length m.coefficients)) ≤ℤ ((pos e *ℤ q) *ℤ power q (length m.coefficients)) = le-mul _ _ (power q (length m.coefficients)) Q0 h in
      let a = Within-more _ _ _ l (Within-moved p o q (length m.coefficients) m.coefficients g g') in
      let b = Within-cancel_above (at p q (length m.coefficients) m.coefficients -ℤ at o q (length m.coefficients) m.coefficients) (pos e *ℤ power q (length m.coefficients)) q g.positive (Within-is _ _ _ _ refl (ring (pos e ∷ q ∷ power q (length m.coefficients) ∷ []) ((v 0 ⊗ v 1) ⊗ v 2) ((v 0 ⊗ v 2) ⊗ v 1) tt) a) in
      let w : Within (at p q (length m.coefficients) m.coefficients -ℤ pos 1 *ℤ at o q (length m.coefficients) m.coefficients) (pos e *ℤ pos 1 *ℤ power q (length m.coefficients)) = Within-is _ _ _ _ (ring (at p q (length m.coefficients) m.coefficients ∷ at o q (length m.coefficients) m.coefficients ∷ []) (v 0 ⊖ v 1) (v 0 ⊖ lit (pos 1) ⊗ v 1) tt) (ring (pos e ∷ power q (length m.coefficients) ∷ []) (v 0 ⊗ v 1) (v 0 ⊗ lit (pos 1) ⊗ v 1) tt) b in
      let i : pos m.error ≤ℤ (pos m.error *ℤ pos 1) = omega (arith, ints) in
      let c = Apart-moved (at p q (length m.coefficients) m.coefficients) (power q (length m.coefficients)) (pos m.error) (pos (2 ^ up m.exponent)) (pos (2 ^ down m.exponent)) r.numerator (pos r.denominator) Q0 (natural (2 ^ up m.exponent)) (natural r.denominator) (at o q (length m.coefficients) m.coefficients) (pos e) (pos m.error) (pos 1) (natural 1) i w y in
      let t : 2 ^ up m.exponent * 1 ≡ 2 ^ up m.exponent = omega arith in
      at-near (widened e m) o q r g' (length m.coefficients) (up m.exponent) (down m.exponent) (omega arith) refl x.is_fraction (subst (λ t. Apart (at o q (length m.coefficients) m.coefficients) (power q (length m.coefficients)) (pos (m.error + e)) (pos t) (pos (2 ^ down m.exponent)) r.numerator (pos r.denominator)) t c)

  -- ---- the polynomial's own value
  pub value-denominator : (xs : List ℤ) (s : ℤ) → 0 < unsigned_abs (power q (length xs)) * 2 ^ down s
  value-denominator xs s =
      let o : pos 1 ≤ℤ power q (length xs) = power-one q (length xs) g.positive in
      positive_product (unsigned_abs (power q (length xs))) (2 ^ down s) (omega (arith, ints)) (pow_pos (down s))

  pub near-value : (m : Model) → IsNear m p q (value m p q)
  near-value m =
      let n : (a b : ℤ) → a ≤ℤ b → (((at p q (length m.coefficients) m.coefficients +ℤ a *ℤ power q (length m.coefficients)) *ℤ pos (2 ^ up m.exponent)) *ℤ pos (unsigned_abs (power q (length m.coefficients)) * 2 ^ down m.exponent)) ≤ℤ (((at p q (length m.coefficients) m.coefficients +ℤ b *ℤ power q (length m.coefficients)) *ℤ pos (2 ^ up m.exponent)) *ℤ pos (unsigned_abs (power q (length m.coefficients)) * 2 ^ down m.exponent)) = λ a b h. le-mul _ _ (pos (unsigned_abs (power q (length m.coefficients)) * 2 ^ down m.exponent)) (natural (unsigned_abs (power q (length m.coefficients)) * 2 ^ down m.exponent)) (le-mul (at p q (length m.coefficients) m.coefficients +ℤ a *ℤ power q (length m.coefficients)) (at p q (length m.coefficients) m.coefficients +ℤ b *ℤ power q (length m.coefficients)) (pos (2 ^ up m.exponent)) (natural (2 ^ up m.exponent)) (let k : (a *ℤ power q (length m.coefficients)) ≤ℤ (b *ℤ power q (length m.coefficients)) = le-mul a b (power q (length m.coefficients)) (power0 p q (length m.coefficients) g) h in omega (arith, lin))) in
      record { is_fraction = value-denominator m.coefficients m.exponent; low = n (neg_ℤ (pos m.error)) (pos 0) (omega (arith, lin)); high = n (pos 0) (pos m.error) (omega (arith, lin)) }

  -- a number near a model is near each other one that its value is near
  pub near-by_value : (m n : Model) (r : Fraction) → n.exponent ≡ m.exponent → IsNear m p q r → IsNear n p q (value m p q) → IsNear (widened m.error n) p q r
  near-by_value m n r e x y =
      let o : pos (unsigned_abs (power q (length m.coefficients))) ≡ power q (length m.coefficients) = own-power q (length m.coefficients) g.positive in
      let l = le-mul _ _ (pos (2 ^ down m.exponent)) (natural (2 ^ down m.exponent)) x.low in
      let h = le-mul _ _ (pos (2 ^ down m.exponent)) (natural (2 ^ down m.exponent)) x.high in
      near-off n p q m.error (value m p q) r (in_units (pos m.error) m.exponent) g x.is_fraction (pow_pos (down m.exponent)) (subst (λ s. NoMore (in_units (pos m.error) m.exponent) (in_units (pos m.error) s)) (sym e) (omega (arith, lin))) (low-is (at p q (length m.coefficients) m.coefficients) (power q (length m.coefficients)) (unsigned_abs (power q (length m.coefficients))) o (pos m.error) (pos (2 ^ up m.exponent)) (2 ^ down m.exponent) r.numerator (pos r.denominator) l) (high-is (at p q (length m.coefficients) m.coefficients) (power q (length m.coefficients)) (unsigned_abs (power q (length m.coefficients))) o (pos m.error) (pos (2 ^ up m.exponent)) (2 ^ down m.exponent) r.numerator (pos r.denominator) h) y
    where
      low-is : (A Q : ℤ) (N : ℕ) → pos N ≡ Q → (E U : ℤ) (W : ℕ) (n D : ℤ) → (((A +ℤ neg_ℤ E *ℤ Q) *ℤ U) *ℤ D *ℤ pos W) ≤ℤ (n *ℤ pos (N * W) *ℤ pos W) → ((((A +ℤ pos 0 *ℤ Q) *ℤ U) *ℤ pos W -ℤ (E *ℤ U) *ℤ pos (N * W)) *ℤ D) ≤ℤ (n *ℤ pos (N * W * W))
      low-is A Q N o E U W n D h =
          let a : (((A +ℤ pos 0 *ℤ Q) *ℤ U) *ℤ pos W -ℤ (E *ℤ U) *ℤ (pos N *ℤ pos W)) *ℤ D ≡ (((A +ℤ pos 0 *ℤ Q) *ℤ U) *ℤ pos W -ℤ (E *ℤ U) *ℤ (Q *ℤ pos W)) *ℤ D = ap (λ t. (((A +ℤ pos 0 *ℤ Q) *ℤ U) *ℤ pos W -ℤ (E *ℤ U) *ℤ (t *ℤ pos W)) *ℤ D) o in
          let b : (((A +ℤ pos 0 *ℤ Q) *ℤ U) *ℤ pos W -ℤ (E *ℤ U) *ℤ (Q *ℤ pos W)) *ℤ D ≡ ((A +ℤ neg_ℤ E *ℤ Q) *ℤ U) *ℤ D *ℤ pos W = ring (A ∷ Q ∷ E ∷ U ∷ pos W ∷ D ∷ []) ((((v 0 ⊕ lit (pos 0) ⊗ v 1) ⊗ v 3) ⊗ v 4 ⊖ (v 2 ⊗ v 3) ⊗ (v 1 ⊗ v 4)) ⊗ v 5) (((v 0 ⊕ minus (v 2) ⊗ v 1) ⊗ v 3) ⊗ v 5 ⊗ v 4) tt in
          let c : n *ℤ pos (N * W) *ℤ pos W ≡ n *ℤ pos (N * W * W) = ring (n ∷ pos (N * W) ∷ pos W ∷ []) (v 0 ⊗ v 1 ⊗ v 2) (v 0 ⊗ (v 1 ⊗ v 2)) tt in
          omega (arith, lin)

      high-is : (A Q : ℤ) (N : ℕ) → pos N ≡ Q → (E U : ℤ) (W : ℕ) (n D : ℤ) → (n *ℤ pos (N * W) *ℤ pos W) ≤ℤ (((A +ℤ E *ℤ Q) *ℤ U) *ℤ D *ℤ pos W) → (n *ℤ pos (N * W * W)) ≤ℤ ((((A +ℤ pos 0 *ℤ Q) *ℤ U) *ℤ pos W +ℤ (E *ℤ U) *ℤ pos (N * W)) *ℤ D)
      high-is A Q N o E U W n D h =
          let a : (((A +ℤ pos 0 *ℤ Q) *ℤ U) *ℤ pos W +ℤ (E *ℤ U) *ℤ (pos N *ℤ pos W)) *ℤ D ≡ (((A +ℤ pos 0 *ℤ Q) *ℤ U) *ℤ pos W +ℤ (E *ℤ U) *ℤ (Q *ℤ pos W)) *ℤ D = ap (λ t. (((A +ℤ pos 0 *ℤ Q) *ℤ U) *ℤ pos W +ℤ (E *ℤ U) *ℤ (t *ℤ pos W)) *ℤ D) o in
          let b : (((A +ℤ pos 0 *ℤ Q) *ℤ U) *ℤ pos W +ℤ (E *ℤ U) *ℤ (Q *ℤ pos W)) *ℤ D ≡ ((A +ℤ E *ℤ Q) *ℤ U) *ℤ D *ℤ pos W = ring (A ∷ Q ∷ E ∷ U ∷ pos W ∷ D ∷ []) ((((v 0 ⊕ lit (pos 0) ⊗ v 1) ⊗ v 3) ⊗ v 4 ⊕ (v 2 ⊗ v 3) ⊗ (v 1 ⊗ v 4)) ⊗ v 5) (((v 0 ⊕ v 2 ⊗ v 1) ⊗ v 3) ⊗ v 5 ⊗ v 4) tt in
          let c : n *ℤ pos (N * W) *ℤ pos W ≡ n *ℤ pos (N * W * W) = ring (n ∷ pos (N * W) ∷ pos W ∷ []) (v 0 ⊗ v 1 ⊗ v 2) (v 0 ⊗ (v 1 ⊗ v 2)) tt in
          omega (arith, lin)

  -- no coefficients, and one more in front of others
  pub near-none : (e : ℕ) (s : ℤ) → IsNear (constant (pos 0) 0 s) p q (value (model [] e s) p q)
  near-none e s =
      let z : (pos 0 +ℤ pos 0 *ℤ pos 1) *ℤ pos (2 ^ up s) ≡ pos 0 = ring (pos (2 ^ up s) ∷ []) ((lit (pos 0) ⊕ lit (pos 0) ⊗ lit (pos 1)) ⊗ v 0) (lit (pos 0)) tt in
      near-constant (pos 0) 0 s (value (model [] e s) p q) (value-denominator [] s) (omega (arith, ints)) (omega (arith, ints))

  value-step : (a A Q U : ℤ) (i j w N : ℕ) → pos i ≡ q → pos j ≡ Q → pos N ≡ q *ℤ Q → ((a *ℤ U) *ℤ pos (i * (j * w)) +ℤ (p *ℤ ((A +ℤ pos 0 *ℤ Q) *ℤ U)) *ℤ pos w) *ℤ pos (N * w) ≡ (((a *ℤ (q *ℤ Q) +ℤ p *ℤ A) +ℤ pos 0 *ℤ (q *ℤ Q)) *ℤ U) *ℤ pos (w * (i * (j * w)))
  value-step a A Q U i j w N e f h =
      let l : ((a *ℤ U) *ℤ (pos i *ℤ (pos j *ℤ pos w)) +ℤ (p *ℤ ((A +ℤ pos 0 *ℤ Q) *ℤ U)) *ℤ pos w) *ℤ (pos N *ℤ pos w) ≡ ((a *ℤ U) *ℤ (q *ℤ (Q *ℤ pos w)) +ℤ (p *ℤ ((A +ℤ pos 0 *ℤ Q) *ℤ U)) *ℤ pos w) *ℤ ((q *ℤ Q) *ℤ pos w) = λ k. ((a *ℤ U) *ℤ (e k *ℤ (f k *ℤ pos w)) +ℤ (p *ℤ ((A +ℤ pos 0 *ℤ Q) *ℤ U)) *ℤ pos w) *ℤ (h k *ℤ pos w) in
      let m : (((a *ℤ (q *ℤ Q) +ℤ p *ℤ A) +ℤ pos 0 *ℤ (q *ℤ Q)) *ℤ U) *ℤ (pos w *ℤ (pos i *ℤ (pos j *ℤ pos w))) ≡ (((a *ℤ (q *ℤ Q) +ℤ p *ℤ A) +ℤ pos 0 *ℤ (q *ℤ Q)) *ℤ U) *ℤ (pos w *ℤ (q *ℤ (Q *ℤ pos w))) = λ k. (((a *ℤ (q *ℤ Q) +ℤ p *ℤ A) +ℤ pos 0 *ℤ (q *ℤ Q)) *ℤ U) *ℤ (pos w *ℤ (e k *ℤ (f k *ℤ pos w))) in
      l ∙ (ring (a ∷ A ∷ p ∷ q ∷ Q ∷ U ∷ pos w ∷ []) (((v 0 ⊗ v 5) ⊗ (v 3 ⊗ (v 4 ⊗ v 6)) ⊕ (v 2 ⊗ ((v 1 ⊕ lit (pos 0) ⊗ v 4) ⊗ v 5)) ⊗ v 6) ⊗ ((v 3 ⊗ v 4) ⊗ v 6)) ((((v 0 ⊗ (v 3 ⊗ v 4) ⊕ v 2 ⊗ v 1) ⊕ lit (pos 0) ⊗ (v 3 ⊗ v 4)) ⊗ v 5) ⊗ (v 6 ⊗ (v 3 ⊗ (v 4 ⊗ v 6)))) tt ∙ sym m)

  pub near-next : (n : Model) (a : ℤ) (xs : List ℤ) (e : ℕ) (s : ℤ) → IsNear n p q (fraction_add (in_units a s) (fraction_mul (fraction p (unsigned_abs q)) (value (model xs e s) p q))) → IsNear n p q (value (model (a ∷ xs) e s) p q)
  near-next n a xs e s x =
      near-same n p q (fraction_add (in_units a s) (fraction_mul (fraction p (unsigned_abs q)) (value (model xs e s) p q))) (value (model (a ∷ xs) e s) p q) (value-denominator (a ∷ xs) s) (value-step a (at p q (length xs) xs) (power q (length xs)) (pos (2 ^ up s)) (unsigned_abs q) (unsigned_abs (power q (length xs))) (2 ^ down s) (unsigned_abs (power q (suc (length xs)))) (own-argument p q g) (own-power q (length xs) g.positive) (own-power q (suc (length xs)) g.positive)) x
