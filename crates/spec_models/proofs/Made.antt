-- Models that are made of others are near what is made of the numbers near those.
use Rattle.std.proofs.Common.{◌≡◌, ℕ, suc, ◌+◌, ◌*◌, ◌/◌, ◌^◌, ◌<◌, ◌≤◌, arith, refl, sym, ap, subst, [], ◌∷◌, length, take, drop, ℤ, pos, ◌+ℤ◌, ◌-ℤ◌, ◌*ℤ◌, neg_ℤ, ◌≤ℤ◌, unsigned_abs}
use Rattle.std.proofs.lemmas.Int.{ints}
use Rattle.std.proofs.lemmas.Nat.{pow_pos, pow-add}
use Rattle.std.proofs.lemmas.List.{length-take}
use Rattle.std.proofs.Math.Nat.{lt-div-mul-add}
use borrow.Author.Differences.{up, down}
use Rattle.spec_numbers.specs.Numbers.{power}
use Rattle.spec_numbers.proofs.Ring.{v, k as lit, ◌⊕◌, ◌⊖◌, ◌⊗◌, minus, ring}
use Rattle.spec_numbers.proofs.Order.{lin, natural}
use Rattle.spec_numbers.proofs.Whole.{nonneg-mul}
use Rattle.spec_numbers.proofs.Naturals.{positive_product, power-add}
use Rattle.spec_intervals.specs.Fraction.{Fraction, fraction, fraction_add, fraction_sub, fraction_mul}
use Rattle.spec_chebyshev.specs.Differences.{IsArgument, Within}
use Rattle.spec_models.specs.Models.{Model, model, at, IsNear, sizes, added, multiplied, opposite, convolved, halved, raised, lowered, cut, negated, sum_model, difference_model, product_model}
use Rattle.spec_models.proofs.Lists.{at-added, at-multiplied, at-opposite, at-convolved, length-added, length-multiplied, length-opposite, length-halved, length-convolved}
use Rattle.spec_models.proofs.Bounds.{Within-is, Within-at, Within-halved, Within-cut, power0}
use Rattle.spec_models.proofs.Nearness.{Apart, near-at, at-near}
use Rattle.spec_models.proofs.Operations.{Apart-is, Apart-wider, Apart-moved, Apart-lowered, Apart-negated, Apart-sum, Apart-product, Apart-multiplied, Apart-greater, Apart-lesser}

abbrev pub fraction_neg : Fraction → Fraction
fraction_neg r = fraction (neg_ℤ r.numerator) r.denominator

module _ (p q : ℤ) (g : IsArgument p q) where
  -- ---- a greater error
  pub near-error : (m : Model) (e : ℕ) (r : Fraction) → m.error ≤ e → IsNear m p q r → IsNear (model m.coefficients e m.exponent) p q r
  near-error m e r h x =
      let y = near-at m p q r g (length m.coefficients) (up m.exponent) (down m.exponent) (omega arith) refl x in
      at-near (model m.coefficients e m.exponent) p q r g (length m.coefficients) (up m.exponent) (down m.exponent) (omega arith) refl x.is_fraction (Apart-wider (at p q (length m.coefficients) m.coefficients) (power q (length m.coefficients)) (pos m.error) (pos (2 ^ up m.exponent)) (pos (2 ^ down m.exponent)) r.numerator (pos r.denominator) (power0 p q (length m.coefficients) g) (natural (2 ^ up m.exponent)) (natural r.denominator) (pos e) (omega (arith, lin)) y)

  -- ---- sums, negated models and differences
  pub near-sum : (m n : Model) (r z : Fraction) → m.exponent ≡ n.exponent → IsNear m p q r → IsNear n p q z → IsNear (sum_model m n) p q (fraction_add r z)
  near-sum m n r z e x y =
      let s : up n.exponent + down m.exponent ≡ up m.exponent + down n.exponent = rw e (omega arith) in
      let a = near-at m p q r g (length m.coefficients + length n.coefficients) (up m.exponent) (down m.exponent) (omega arith) refl x in
      let b = near-at n p q z g (length m.coefficients + length n.coefficients) (up m.exponent) (down m.exponent) (omega arith) s y in
      let c = Apart-sum (at p q (length m.coefficients + length n.coefficients) m.coefficients) (power q (length m.coefficients + length n.coefficients)) (pos m.error) (pos (2 ^ up m.exponent)) (pos (2 ^ down m.exponent)) r.numerator (pos r.denominator) (power0 p q (length m.coefficients + length n.coefficients) g) (natural (2 ^ up m.exponent)) (natural r.denominator) (at p q (length m.coefficients + length n.coefficients) n.coefficients) (pos n.error) z.numerator (pos z.denominator) (natural z.denominator) a b in
      let l : length (added m.coefficients n.coefficients) ≤ length m.coefficients + length n.coefficients = length-added m.coefficients n.coefficients (length m.coefficients + length n.coefficients) (omega arith) (omega arith) in
      at-near (sum_model m n) p q (fraction_add r z) g (length m.coefficients + length n.coefficients) (up m.exponent) (down m.exponent) l refl (positive_product r.denominator z.denominator x.is_fraction y.is_fraction) (subst (λ t. Apart t (power q (length m.coefficients + length n.coefficients)) (pos (m.error + n.error)) (pos (2 ^ up m.exponent)) (pos (2 ^ down m.exponent)) (fraction_add r z).numerator (pos (r.denominator * z.denominator))) (sym (at-added p q (length m.coefficients + length n.coefficients) m.coefficients n.coefficients)) c)

  pub near-negated : (m : Model) (r : Fraction) → IsNear m p q r → IsNear (negated m) p q (fraction_neg r)
  near-negated m r x =
      let a = near-at m p q r g (length m.coefficients) (up m.exponent) (down m.exponent) (omega arith) refl x in
      let b = Apart-negated (at p q (length m.coefficients) m.coefficients) (power q (length m.coefficients)) (pos m.error) (pos (2 ^ up m.exponent)) (pos (2 ^ down m.exponent)) r.numerator (pos r.denominator) (power0 p q (length m.coefficients) g) (natural (2 ^ up m.exponent)) (natural r.denominator) a in
      let l : length (opposite m.coefficients) ≡ length m.coefficients = length-opposite m.coefficients in
      at-near (negated m) p q (fraction_neg r) g (length m.coefficients) (up m.exponent) (down m.exponent) (omega arith) refl x.is_fraction (subst (λ t. Apart t (power q (length m.coefficients)) (pos m.error) (pos (2 ^ up m.exponent)) (pos (2 ^ down m.exponent)) (neg_ℤ r.numerator) (pos r.denominator)) (sym (at-opposite p q (length m.coefficients) m.coefficients)) b)

  pub near-difference : (m n : Model) (r z : Fraction) → m.exponent ≡ n.exponent → IsNear m p q r → IsNear n p q z → IsNear (difference_model m n) p q (fraction_sub r z)
  near-difference m n r z e x y =
      let a : IsNear (difference_model m n) p q (fraction_add r (fraction_neg z)) = near-sum m (negated n) r (fraction_neg z) e x (near-negated n z y) in
      let f : r.numerator *ℤ pos z.denominator +ℤ neg_ℤ z.numerator *ℤ pos r.denominator ≡ r.numerator *ℤ pos z.denominator -ℤ z.numerator *ℤ pos r.denominator = ring (r.numerator ∷ z.numerator ∷ pos r.denominator ∷ pos z.denominator ∷ []) (v 0 ⊗ v 3 ⊕ minus (v 1) ⊗ v 2) (v 0 ⊗ v 3 ⊖ v 1 ⊗ v 2) tt in
      subst (λ t. IsNear (difference_model m n) p q (fraction t (r.denominator * z.denominator))) f a

  -- ---- products
  pub near-product : (m n : Model) (r z : Fraction) → IsNear m p q r → IsNear n p q z → IsNear (product_model m n) p q (fraction_mul r z)
  near-product m n r z x y =
      let a = near-at m p q r g (length m.coefficients) (up m.exponent) (down m.exponent) (omega arith) refl x in
      let b = near-at n p q z g (length n.coefficients) (up n.exponent) (down n.exponent) (omega arith) refl y in
      let c = Apart-product (at p q (length m.coefficients) m.coefficients) (power q (length m.coefficients)) (pos m.error) (pos (2 ^ up m.exponent)) (pos (2 ^ down m.exponent)) r.numerator (pos r.denominator) (power0 p q (length m.coefficients) g) (natural (2 ^ up m.exponent)) (natural r.denominator) (natural m.error) (pos (sizes m.coefficients)) (natural (sizes m.coefficients)) (at p q (length n.coefficients) n.coefficients) (power q (length n.coefficients)) (pos n.error) (pos (2 ^ up n.exponent)) (pos (2 ^ down n.exponent)) z.numerator (pos z.denominator) (power0 p q (length n.coefficients) g) (natural (2 ^ up n.exponent)) (natural z.denominator) (natural n.error) (pos (sizes n.coefficients)) (natural (sizes n.coefficients)) (Within-at p q (length m.coefficients) m.coefficients g) (Within-at p q (length n.coefficients) n.coefficients g) a b in
      let d = Apart-is _ _ _ _ _ _ _ (at p q (length m.coefficients + length n.coefficients) (convolved m.coefficients n.coefficients)) (power q (length m.coefficients + length n.coefficients)) (pos (sizes m.coefficients * n.error + sizes n.coefficients * m.error + m.error * n.error)) (pos (2 ^ (up m.exponent + up n.exponent))) (pos (2 ^ (down m.exponent + down n.exponent))) (r.numerator *ℤ z.numerator) (pos (r.denominator * z.denominator)) (sym (at-convolved p q (length m.coefficients) (length n.coefficients) m.coefficients n.coefficients (omega arith) (omega arith))) (sym (power-add q (length m.coefficients) (length n.coefficients))) refl (ap pos (sym (pow-add 2 (up m.exponent) (up n.exponent)))) (ap pos (sym (pow-add 2 (down m.exponent) (down n.exponent)))) refl refl c in
      let s : up (m.exponent +ℤ n.exponent) + (down m.exponent + down n.exponent) ≡ (up m.exponent + up n.exponent) + down (m.exponent +ℤ n.exponent) = omega (arith, lin) in
      at-near (product_model m n) p q (fraction_mul r z) g (length m.coefficients + length n.coefficients) (up m.exponent + up n.exponent) (down m.exponent + down n.exponent) (length-convolved m.coefficients n.coefficients) s (positive_product r.denominator z.denominator x.is_fraction y.is_fraction) d

  -- ---- greater and lesser units
  pub near-raised : (k : ℕ) (m : Model) (r : Fraction) → IsNear m p q r → IsNear (raised k m) p q r
  near-raised k m r x =
      let a = near-at m p q r g (length m.coefficients) (up m.exponent) (down m.exponent) (omega arith) refl x in
      let n : m.error < m.error / 2 ^ k * 2 ^ k + 2 ^ k = lt-div-mul-add (pow_pos k) in
      let f : pos m.error ≤ℤ (pos (suc (m.error / 2 ^ k)) *ℤ pos (2 ^ k)) = omega (arith, ints) in
      let b = Apart-moved (at p q (length m.coefficients) m.coefficients) (power q (length m.coefficients)) (pos m.error) (pos (2 ^ up m.exponent)) (pos (2 ^ down m.exponent)) r.numerator (pos r.denominator) (power0 p q (length m.coefficients) g) (natural (2 ^ up m.exponent)) (natural r.denominator) (at p q (length m.coefficients) (halved k m.coefficients)) (pos (length m.coefficients)) (pos (suc (m.error / 2 ^ k))) (pos (2 ^ k)) (natural (2 ^ k)) f (Within-halved p q (length m.coefficients) k m.coefficients g) a in
      let s : up (m.exponent +ℤ pos k) + down m.exponent ≡ (up m.exponent + k) + down (m.exponent +ℤ pos k) = omega (arith, lin) in
      let l : length (halved k m.coefficients) ≡ length m.coefficients = length-halved k m.coefficients in
      at-near (raised k m) p q r g (length m.coefficients) (up m.exponent + k) (down m.exponent) (omega arith) s x.is_fraction (subst (λ t. Apart (at p q (length m.coefficients) (halved k m.coefficients)) (power q (length m.coefficients)) (pos (suc (m.error / 2 ^ k) + length m.coefficients)) (pos t) (pos (2 ^ down m.exponent)) r.numerator (pos r.denominator)) (sym (pow-add 2 (up m.exponent) k)) b)

  pub near-lowered : (k : ℕ) (m : Model) (r : Fraction) → IsNear m p q r → IsNear (lowered k m) p q r
  near-lowered k m r x =
      let a = near-at m p q r g (length m.coefficients) (up m.exponent) (down m.exponent) (omega arith) refl x in
      let b = Apart-lowered (at p q (length m.coefficients) m.coefficients) (power q (length m.coefficients)) (pos m.error) (pos (2 ^ up m.exponent)) (pos (2 ^ down m.exponent)) r.numerator (pos r.denominator) (power0 p q (length m.coefficients) g) (natural (2 ^ up m.exponent)) (natural r.denominator) (pos (2 ^ k)) (natural (2 ^ k)) a in
      let c = Apart-is _ _ _ _ _ _ _ (at p q (length m.coefficients) (multiplied (pos (2 ^ k)) m.coefficients)) (power q (length m.coefficients)) (pos (m.error * 2 ^ k)) (pos (2 ^ up m.exponent)) (pos (2 ^ (down m.exponent + k))) r.numerator (pos r.denominator) (sym (at-multiplied p q (length m.coefficients) (pos (2 ^ k)) m.coefficients)) refl refl refl (ap pos (sym (pow-add 2 (down m.exponent) k))) refl refl b in
      let s : up (m.exponent -ℤ pos k) + (down m.exponent + k) ≡ up m.exponent + down (m.exponent -ℤ pos k) = omega (arith, lin) in
      let l : length (multiplied (pos (2 ^ k)) m.coefficients) ≡ length m.coefficients = length-multiplied (pos (2 ^ k)) m.coefficients in
      at-near (lowered k m) p q r g (length m.coefficients) (up m.exponent) (down m.exponent + k) (omega arith) s x.is_fraction c

  -- ---- fewer coefficients
  pub near-cut : (n : ℕ) (m : Model) (r : Fraction) → IsNear m p q r → IsNear (cut n m) p q r
  near-cut n m r x =
      let a = near-at m p q r g (length m.coefficients) (up m.exponent) (down m.exponent) (omega arith) refl x in
      let w : Within (at p q (length m.coefficients) m.coefficients -ℤ pos 1 *ℤ at p q (length m.coefficients) (take n m.coefficients)) (pos (sizes (drop n m.coefficients)) *ℤ pos 1 *ℤ power q (length m.coefficients)) = Within-is _ _ _ _ (ring (at p q (length m.coefficients) m.coefficients ∷ at p q (length m.coefficients) (take n m.coefficients) ∷ []) (v 0 ⊖ v 1) (v 0 ⊖ lit (pos 1) ⊗ v 1) tt) (ring (pos (sizes (drop n m.coefficients)) ∷ power q (length m.coefficients) ∷ []) (v 0 ⊗ v 1) (v 0 ⊗ lit (pos 1) ⊗ v 1) tt) (Within-cut p q (length m.coefficients) n m.coefficients g) in
      let o : pos m.error ≤ℤ (pos m.error *ℤ pos 1) = omega (arith, ints) in
      let b = Apart-moved (at p q (length m.coefficients) m.coefficients) (power q (length m.coefficients)) (pos m.error) (pos (2 ^ up m.exponent)) (pos (2 ^ down m.exponent)) r.numerator (pos r.denominator) (power0 p q (length m.coefficients) g) (natural (2 ^ up m.exponent)) (natural r.denominator) (at p q (length m.coefficients) (take n m.coefficients)) (pos (sizes (drop n m.coefficients))) (pos m.error) (pos 1) (natural 1) o w a in
      let t : 2 ^ up m.exponent * 1 ≡ 2 ^ up m.exponent = omega arith in
      let l : length (take n m.coefficients) ≤ length m.coefficients = rw (length-take n m.coefficients) (omega arith) in
      at-near (cut n m) p q r g (length m.coefficients) (up m.exponent) (down m.exponent) l refl x.is_fraction (subst (λ t. Apart (at p q (length m.coefficients) (take n m.coefficients)) (power q (length m.coefficients)) (pos (m.error + sizes (drop n m.coefficients))) (pos t) (pos (2 ^ down m.exponent)) r.numerator (pos r.denominator)) t b)

  -- ---- multiples
  pub near-multiplied : (c : ℤ) (m : Model) (r : Fraction) → IsNear m p q r → IsNear (model (multiplied c m.coefficients) (unsigned_abs c * m.error) m.exponent) p q (fraction (c *ℤ r.numerator) r.denominator)
  near-multiplied c m r x =
      let a = near-at m p q r g (length m.coefficients) (up m.exponent) (down m.exponent) (omega arith) refl x in
      let b0 : pos 0 ≤ℤ (pos m.error *ℤ power q (length m.coefficients) *ℤ (pos (2 ^ up m.exponent) *ℤ pos r.denominator)) = nonneg-mul (pos m.error *ℤ power q (length m.coefficients)) (pos (2 ^ up m.exponent) *ℤ pos r.denominator) (nonneg-mul (pos m.error) (power q (length m.coefficients)) (natural m.error) (power0 p q (length m.coefficients) g)) (nonneg-mul (pos (2 ^ up m.exponent)) (pos r.denominator) (natural (2 ^ up m.exponent)) (natural r.denominator)) in
      let b = Apart-multiplied (at p q (length m.coefficients) m.coefficients) (power q (length m.coefficients)) (pos m.error) (pos (2 ^ up m.exponent)) (pos (2 ^ down m.exponent)) r.numerator (pos r.denominator) c b0 a in
      let l : length (multiplied c m.coefficients) ≡ length m.coefficients = length-multiplied c m.coefficients in
      at-near (model (multiplied c m.coefficients) (unsigned_abs c * m.error) m.exponent) p q (fraction (c *ℤ r.numerator) r.denominator) g (length m.coefficients) (up m.exponent) (down m.exponent) (omega arith) refl x.is_fraction (subst (λ t. Apart t (power q (length m.coefficients)) (pos (unsigned_abs c * m.error)) (pos (2 ^ up m.exponent)) (pos (2 ^ down m.exponent)) (c *ℤ r.numerator) (pos r.denominator)) (sym (at-multiplied p q (length m.coefficients) c m.coefficients)) b)

  pub near-greater : (k : ℕ) (m : Model) (r : Fraction) → IsNear m p q r → IsNear (model m.coefficients m.error (m.exponent +ℤ pos k)) p q (fraction (r.numerator *ℤ pos (2 ^ k)) r.denominator)
  near-greater k m r x =
      let a = near-at m p q r g (length m.coefficients) (up m.exponent) (down m.exponent) (omega arith) refl x in
      let b = Apart-greater (at p q (length m.coefficients) m.coefficients) (power q (length m.coefficients)) (pos m.error) (pos (2 ^ up m.exponent)) (pos (2 ^ down m.exponent)) r.numerator (pos r.denominator) (pos (2 ^ k)) (natural (2 ^ k)) a in
      let s : up (m.exponent +ℤ pos k) + down m.exponent ≡ (up m.exponent + k) + down (m.exponent +ℤ pos k) = omega (arith, lin) in
      at-near (model m.coefficients m.error (m.exponent +ℤ pos k)) p q (fraction (r.numerator *ℤ pos (2 ^ k)) r.denominator) g (length m.coefficients) (up m.exponent + k) (down m.exponent) (omega arith) s x.is_fraction (subst (λ t. Apart (at p q (length m.coefficients) m.coefficients) (power q (length m.coefficients)) (pos m.error) (pos t) (pos (2 ^ down m.exponent)) (r.numerator *ℤ pos (2 ^ k)) (pos r.denominator)) (sym (pow-add 2 (up m.exponent) k)) b)

  pub near-lesser : (k : ℕ) (m : Model) (r : Fraction) → IsNear m p q r → IsNear (model m.coefficients m.error (m.exponent -ℤ pos k)) p q (fraction r.numerator (r.denominator * 2 ^ k))
  near-lesser k m r x =
      let a = near-at m p q r g (length m.coefficients) (up m.exponent) (down m.exponent) (omega arith) refl x in
      let b = Apart-lesser (at p q (length m.coefficients) m.coefficients) (power q (length m.coefficients)) (pos m.error) (pos (2 ^ up m.exponent)) (pos (2 ^ down m.exponent)) r.numerator (pos r.denominator) (pos (2 ^ k)) (natural (2 ^ k)) a in
      let s : up (m.exponent -ℤ pos k) + (down m.exponent + k) ≡ up m.exponent + down (m.exponent -ℤ pos k) = omega (arith, lin) in
      at-near (model m.coefficients m.error (m.exponent -ℤ pos k)) p q (fraction r.numerator (r.denominator * 2 ^ k)) g (length m.coefficients) (up m.exponent) (down m.exponent + k) (omega arith) s (positive_product r.denominator (2 ^ k) x.is_fraction (pow_pos k)) (subst (λ t. Apart (at p q (length m.coefficients) m.coefficients) (power q (length m.coefficients)) (pos m.error) (pos (2 ^ up m.exponent)) (pos t) r.numerator (pos (r.denominator * 2 ^ k))) (sym (pow-add 2 (down m.exponent) k)) b)
