-- Whole numbers of units as fractions: sums, products and multiples of these, and when they are near a model.
use Rattle.std.proofs.Common.{◌<◌, ◌≡◌, ℕ, ◌+◌, ◌*◌, ◌^◌, arith, sym, ap, ◌∙◌, [], ◌∷◌, ℤ, pos, ◌+ℤ◌, ◌-ℤ◌, ◌*ℤ◌, neg_ℤ, ◌≤ℤ◌}
use Rattle.std.proofs.lemmas.Int.{ints}
use Rattle.std.proofs.lemmas.Nat.{pow_pos, pow-add}
use borrow.Author.Differences.{up, down}
use Rattle.spec_numbers.specs.Numbers.{power}
use Rattle.spec_numbers.proofs.Naturals.{positive_product}
use Rattle.spec_numbers.proofs.Ring.{v, k as lit, ◌⊕◌, ◌⊗◌, ring}
use Rattle.spec_numbers.proofs.Order.{lin, le-mul, natural}
use Rattle.spec_intervals.specs.Fraction.{fraction, fraction_add, fraction_mul, fraction_scale}
use Rattle.spec_intervals.specs.Interval.{interval}
use Rattle.spec_chebyshev.specs.Differences.{IsArgument, Within}
use Rattle.spec_models.specs.Ends.{NoMore, in_units}
use Rattle.spec_models.proofs.Ordered.{more_units}
use Rattle.spec_models.specs.Models.{Model, constant, at, degree, IsNear, Covers}
use Rattle.spec_covers.specs.Combining.{MultipliesTo, RepeatsTo, ScalesTo}
use Rattle.spec_covers.proofs.Fractions.{IsSame}
use Rattle.spec_models.proofs.Between.{near-same}
use Rattle.spec_models.proofs.Values.{near-constant}
use Rattle.spec_covers.proofs.Near.{whole_positive}

-- ---- sums and products
pub same_sum : (z w s : ℤ) → IsSame (fraction_add (in_units z s) (in_units w s)) (in_units (z +ℤ w) s)
same_sum z w s = ring (z ∷ w ∷ pos (2 ^ up s) ∷ pos (2 ^ down s) ∷ []) ((v 0 ⊗ v 2 ⊗ v 3 ⊕ v 1 ⊗ v 2 ⊗ v 3) ⊗ v 3) ((v 0 ⊕ v 1) ⊗ v 2 ⊗ (v 3 ⊗ v 3)) tt

product_powers : (s t e : ℤ) → e ≡ s +ℤ t → 2 ^ up s * 2 ^ up t * 2 ^ down e ≡ 2 ^ up e * (2 ^ down s * 2 ^ down t)
product_powers s t e h =
    let sums : up s + up t + down e ≡ up e + (down s + down t) = omega (arith, lin) in
    let a = pow-add 2 (up s) (up t) in
    let b = pow-add 2 (up s + up t) (down e) in
    let c = pow-add 2 (down s) (down t) in
    let d = pow-add 2 (up e) (down s + down t) in
    ap (λ n. n * 2 ^ down e) (sym a) ∙ (sym b ∙ (ap (λ n. 2 ^ n) sums ∙ (d ∙ ap (λ n. 2 ^ up e * n) c)))

pub same_product : (z w s t e : ℤ) → e ≡ s +ℤ t → IsSame (fraction_mul (in_units z s) (in_units w t)) (in_units (z *ℤ w) e)
same_product z w s t e h =
    ring (z ∷ w ∷ pos (2 ^ up s) ∷ pos (2 ^ up t) ∷ pos (2 ^ down e) ∷ []) (v 0 ⊗ v 2 ⊗ (v 1 ⊗ v 3) ⊗ v 4) (v 0 ⊗ v 1 ⊗ (v 2 ⊗ v 3 ⊗ v 4)) tt ∙
    (ap (λ n. z *ℤ w *ℤ pos n) (product_powers s t e h) ∙
    ring (z ∷ w ∷ pos (2 ^ up e) ∷ pos (2 ^ down s * 2 ^ down t) ∷ []) (v 0 ⊗ v 1 ⊗ (v 2 ⊗ v 3)) (v 0 ⊗ v 1 ⊗ v 2 ⊗ v 3) tt)

pub same_multiple : (n : ℕ) (z s : ℤ) → IsSame (fraction_mul (fraction (pos n) 1) (in_units z s)) (in_units (pos n *ℤ z) s)
same_multiple n z s =
    ring (pos n ∷ z ∷ pos (2 ^ up s) ∷ pos (2 ^ down s) ∷ []) (v 0 ⊗ (v 1 ⊗ v 2) ⊗ v 3) (v 0 ⊗ v 1 ⊗ v 2 ⊗ (lit (pos 1) ⊗ v 3)) tt

-- ---- near a model: w whole units beside a polynomial a / y
beside_units : (a e w y : ℤ) (n u l : ℕ) → y ≡ pos n → (a +ℤ e *ℤ y) ≤ℤ (w *ℤ y) → NoMore (fraction ((a +ℤ e *ℤ y) *ℤ pos u) (n * l)) (fraction (w *ℤ pos u) l)
beside_units a e w y n u l same h =
    let g = le-mul (a +ℤ e *ℤ y) (w *ℤ y) (pos (u * l)) (natural (u * l)) h in
    let r1 = ring ((a +ℤ e *ℤ y) ∷ pos u ∷ pos l ∷ []) (v 0 ⊗ v 1 ⊗ v 2) (v 0 ⊗ (v 1 ⊗ v 2)) tt in
    let r2 = ring (w ∷ y ∷ pos u ∷ pos l ∷ []) (v 0 ⊗ v 2 ⊗ (v 1 ⊗ v 3)) (v 0 ⊗ v 1 ⊗ (v 2 ⊗ v 3)) tt in
    let s1 : w *ℤ pos u *ℤ pos (n * l) ≡ w *ℤ pos u *ℤ (y *ℤ pos l) = ap (λ k. w *ℤ pos u *ℤ (k *ℤ pos l)) (sym same) in
    omega (arith, lin)

units_beside : (a e w y : ℤ) (n u l : ℕ) → y ≡ pos n → (w *ℤ y) ≤ℤ (a +ℤ e *ℤ y) → NoMore (fraction (w *ℤ pos u) l) (fraction ((a +ℤ e *ℤ y) *ℤ pos u) (n * l))
units_beside a e w y n u l same h =
    let g = le-mul (w *ℤ y) (a +ℤ e *ℤ y) (pos (u * l)) (natural (u * l)) h in
    let r1 = ring ((a +ℤ e *ℤ y) ∷ pos u ∷ pos l ∷ []) (v 0 ⊗ v 1 ⊗ v 2) (v 0 ⊗ (v 1 ⊗ v 2)) tt in
    let r2 = ring (w ∷ y ∷ pos u ∷ pos l ∷ []) (v 0 ⊗ v 2 ⊗ (v 1 ⊗ v 3)) (v 0 ⊗ v 1 ⊗ (v 2 ⊗ v 3)) tt in
    let s1 : w *ℤ pos u *ℤ pos (n * l) ≡ w *ℤ pos u *ℤ (y *ℤ pos l) = ap (λ k. w *ℤ pos u *ℤ (k *ℤ pos l)) (sym same) in
    omega (arith, lin)

module _ (m : Model) (p q : ℤ) (is : IsArgument p q) where
  pub near_units : (w : ℤ)
      → (at p q (degree m) m.coefficients +ℤ neg_ℤ (pos m.error) *ℤ power q (degree m)) ≤ℤ (w *ℤ power q (degree m))
      → (w *ℤ power q (degree m)) ≤ℤ (at p q (degree m) m.coefficients +ℤ pos m.error *ℤ power q (degree m))
      → IsNear m p q (in_units w m.exponent)
  near_units w h g =
      let same = (whole_positive m p q is).0 in
      record {
        is_fraction = pow_pos (down m.exponent);
        low = beside_units (at p q (degree m) m.coefficients) (neg_ℤ (pos m.error)) w (power q (degree m)) _ (2 ^ up m.exponent) (2 ^ down m.exponent) same h;
        high = units_beside (at p q (degree m) m.coefficients) (pos m.error) w (power q (degree m)) _ (2 ^ up m.exponent) (2 ^ down m.exponent) same g;
      }

module _ (p q : ℤ) (is : IsArgument p q) where
  -- ---- a number near one whole number
  pub near_whole : (a z s : ℤ) (e : ℕ) → Within (z -ℤ a) (pos e) → IsNear (constant a e s) p q (in_units z s)
  near_whole a z s e within =
      let lower = within.low in
      let upper = within.high in
      near-constant p q is a e s (in_units z s) (pow_pos (down s)) (more_units (a -ℤ pos e) z s (omega (arith, lin))) (more_units z (a +ℤ pos e) s (omega (arith, lin)))

  pub Covers-constant : (a lo hi s : ℤ) (e : ℕ) → Within (lo -ℤ a) (pos e) → Within (hi -ℤ a) (pos e) → Covers (constant a e s) p q (interval lo hi s)
  Covers-constant a lo hi s e first second = record { low = near_whole a lo s e first; high = near_whole a hi s e second }

  -- 0 in whatever units
  pub Covers-zero : (s t : ℤ) (e : ℕ) → Covers (constant (pos 0) e s) p q (interval (pos 0) (pos 0) t)
  Covers-zero s t e =
      let same = ring (pos (2 ^ up s) ∷ pos (2 ^ down s) ∷ pos (2 ^ up t) ∷ pos (2 ^ down t) ∷ []) (lit (pos 0) ⊗ v 0 ⊗ v 3) (lit (pos 0) ⊗ v 2 ⊗ v 1) tt in
      let near = near-same (constant (pos 0) e s) p q (in_units (pos 0) s) (in_units (pos 0) t) (pow_pos (down t)) same (near_whole (pos 0) (pos 0) s e (record { low = omega (arith, ints); high = omega (arith, ints) })) in
      record { low = near; high = near }

-- ---- 2 / length times a number is its product with 2 / length, and n times it that with n
pub ScalesTo-product : (m n k : Model) (length : ℕ) → 0 < length → MultipliesTo m n k
    → ((p q : ℤ) → IsArgument p q → IsNear n p q (fraction (pos 2) length)) → ScalesTo length m k
ScalesTo-product m n k length positive multiplies ratio p q r is near =
    let number = near.is_fraction in
    let same = ring (r.numerator ∷ pos r.denominator ∷ pos length ∷ []) (v 0 ⊗ lit (pos 2) ⊗ (v 1 ⊗ v 2)) (lit (pos 2) ⊗ v 0 ⊗ (v 1 ⊗ v 2)) tt in
    near-same k p q (fraction_mul r (fraction (pos 2) length)) (fraction_scale r length) (positive_product r.denominator length number positive) same
    (multiplies p q r (fraction (pos 2) length) is near (ratio p q is))

pub RepeatsTo-product : (m k : Model) (n : ℕ) → MultipliesTo (constant (pos n) 0 (pos 0)) m k → RepeatsTo n m k
RepeatsTo-product m k n multiplies p q r is near =
    let one = near_whole p q is (pos n) (pos n) (pos 0) 0 (record { low = omega (arith, ints); high = omega (arith, ints) }) in
    let same = ring (pos n ∷ r.numerator ∷ pos r.denominator ∷ []) (v 0 ⊗ lit (pos 1) ⊗ v 1 ⊗ (lit (pos 1) ⊗ v 2)) (v 0 ⊗ v 1 ⊗ (lit (pos 1) ⊗ v 2)) tt in
    near-same k p q (fraction_mul (in_units (pos n) (pos 0)) r) (fraction_mul (fraction (pos n) 1) r) (positive_product 1 r.denominator (omega arith) near.is_fraction) same
    (multiplies p q (in_units (pos n) (pos 0)) r is one near)
