-- How many units are enough, in whole numbers.
use Rattle.std.proofs.Common.{◌≡◌, ℕ, ◌+◌, ◌*◌, ◌^◌, ◌<◌, ◌≤◌, arith, refl, sym, ap, ◌∙◌, [], ◌∷◌, ℤ, pos, ◌+ℤ◌, ◌*ℤ◌, ◌≤ℤ◌}
use Rattle.std.specs.Int.{int_gap}
use Rattle.std.proofs.lemmas.Int.{ints}
use Rattle.std.proofs.lemmas.Nat.{pow_pos, pow-add}
use borrow.Author.Differences.{up, down}
use Rattle.spec_numbers.proofs.Ring.{v, k as lit, ◌⊗◌, ring}
use Rattle.spec_numbers.proofs.Order.{lin, le-mul, le-mul_cancel, natural}
use Rattle.spec_numbers.proofs.Naturals.{positive_product}
use Rattle.spec_intervals.specs.Fraction.{fraction_add, fraction_mul, fraction_scale}
use Rattle.spec_intervals.proofs.Sums.{gap_is}
use Rattle.spec_models.specs.Ends.{NoMore, in_units, slight}
use Rattle.spec_models.proofs.Near.{raised_powers}
use Rattle.spec_models.proofs.Ordered.{no_more_trans, add_no_more, slight_no_more, slight_is_fraction}
use Rattle.spec_models.specs.Models.{Model, bulk}
use Rattle.spec_covers.specs.Combining.{greatest, IsUpto, IsEnough, scaled_loss}
use Rattle.spec_covers.proofs.Fractions.{same_through, same_below}
use Rattle.spec_covers.proofs.Units.{same_sum, same_product}

-- ---- z units of 2^(t + a) are at most n of 2^(t + b), where z 2^a is at most n 2^b
compared : (z n : ℕ) (ut ds us ue de dt pa pb : ℕ) → 0 < dt → us * dt ≡ ut * pa * ds → ue * dt ≡ ut * pb * de → z * pa ≤ n * pb
    → (pos z *ℤ pos us *ℤ pos de) ≤ℤ (pos n *ℤ pos ue *ℤ pos ds)
compared z n ut ds us ue de dt pa pb positive e f h =
    let g : (pos (z * pa) *ℤ pos (ut * ds * de)) ≤ℤ (pos (n * pb) *ℤ pos (ut * ds * de)) = le-mul (pos (z * pa)) (pos (n * pb)) (pos (ut * ds * de)) (natural (ut * ds * de)) (omega (arith, ints)) in
    let x : pos z *ℤ pos us *ℤ pos de *ℤ pos dt ≡ pos (z * pa) *ℤ pos (ut * ds * de) =
    ring (pos z ∷ pos us ∷ pos de ∷ pos dt ∷ []) (v 0 ⊗ v 1 ⊗ v 2 ⊗ v 3) (v 0 ⊗ v 2 ⊗ (v 1 ⊗ v 3)) tt ∙
    (ap (λ k. pos z *ℤ pos de *ℤ pos k) e ∙
    ring (pos z ∷ pos de ∷ pos ut ∷ pos pa ∷ pos ds ∷ []) (v 0 ⊗ v 1 ⊗ (v 2 ⊗ v 3 ⊗ v 4)) (v 0 ⊗ v 3 ⊗ (v 2 ⊗ v 4 ⊗ v 1)) tt) in
    let y : pos n *ℤ pos ue *ℤ pos ds *ℤ pos dt ≡ pos (n * pb) *ℤ pos (ut * ds * de) =
    ring (pos n ∷ pos ue ∷ pos ds ∷ pos dt ∷ []) (v 0 ⊗ v 1 ⊗ v 2 ⊗ v 3) (v 0 ⊗ v 2 ⊗ (v 1 ⊗ v 3)) tt ∙
    (ap (λ k. pos n *ℤ pos ds *ℤ pos k) f ∙
    ring (pos n ∷ pos ds ∷ pos ut ∷ pos pb ∷ pos de ∷ []) (v 0 ⊗ v 1 ⊗ (v 2 ⊗ v 3 ⊗ v 4)) (v 0 ⊗ v 3 ⊗ (v 2 ⊗ v 1 ⊗ v 4)) tt) in
    le-mul_cancel (pos z *ℤ pos us *ℤ pos de) (pos n *ℤ pos ue *ℤ pos ds) dt positive (omega (arith, lin))

pub units_fit : (z n a b : ℕ) (t s e : ℤ) → s ≡ t +ℤ pos a → e ≡ t +ℤ pos b → z * 2 ^ a ≤ n * 2 ^ b → NoMore (in_units (pos z) s) (in_units (pos n) e)
units_fit z n a b t s e first second h =
    compared z n (2 ^ up t) (2 ^ down s) (2 ^ up s) (2 ^ up e) (2 ^ down e) (2 ^ down t) (2 ^ a) (2 ^ b) (pow_pos (down t))
    (raised_powers t s a first) (raised_powers t e b second) h

-- a little of z units
slight_fits : (z n a b : ℕ) (t s e : ℤ) → s ≡ t +ℤ pos a → e ≡ t +ℤ pos b → z * 2 ^ a ≤ n * 2 ^ 58 * 2 ^ b → NoMore (slight (in_units (pos z) s)) (in_units (pos n) e)
slight_fits z n a b t s e first second h =
    let g = units_fit z (n * 2 ^ 58) a b t s e first second h in
    let x = ring (pos n ∷ pos (2 ^ 58) ∷ pos (2 ^ up e) ∷ pos (2 ^ down s) ∷ []) (v 0 ⊗ v 1 ⊗ v 2 ⊗ v 3) (v 0 ⊗ v 2 ⊗ (v 3 ⊗ v 1)) tt in
    omega (arith, lin)

power_split : (n b : ℕ) → n * 2 ^ 58 * 2 ^ b ≡ n * 2 ^ (58 + b)
power_split n b = let e = pow-add 2 58 b in ap unsigned (ring (pos n ∷ pos (2 ^ 58) ∷ pos (2 ^ b) ∷ []) (v 0 ⊗ v 1 ⊗ v 2) (v 0 ⊗ (v 1 ⊗ v 2)) tt) ∙ ap (λ k. n * k) (sym e)
  where
    unsigned : ℤ → ℕ
    unsigned z = up z

pub upto_units : (k : Model) (z d a b : ℕ) (t s : ℤ) → s ≡ t +ℤ pos a → k.exponent ≡ t +ℤ pos b → z * 2 ^ a ≤ d * 2 ^ b → IsUpto d k (in_units (pos z) s)
upto_units k z d a b t s first second h = units_fit z d a b t s k.exponent first second h

pub enough_alone : (m : Model) (d : ℕ) → bulk m ≤ d * 2 ^ 58 → IsEnough d m (greatest m)
enough_alone m d h =
    let e : m.exponent ≡ m.exponent +ℤ pos 0 = omega (arith, lin) in
    slight_fits (bulk m) d 0 0 m.exponent m.exponent m.exponent e e (omega (arith, h))

pub enough_product : (k m n : Model) (d g : ℕ) → k.exponent ≡ m.exponent +ℤ n.exponent +ℤ pos g → bulk m * bulk n ≤ d * 2 ^ (58 + g)
    → IsEnough d k (fraction_mul (greatest m) (greatest n))
enough_product k m n d g exponents h =
    let e : m.exponent +ℤ n.exponent ≡ m.exponent +ℤ n.exponent +ℤ pos 0 = omega (arith, lin) in
    let same = same_product (pos (bulk m)) (pos (bulk n)) m.exponent n.exponent (m.exponent +ℤ n.exponent) refl in
    let p = power_split d g in
    no_more_trans (slight (fraction_mul (greatest m) (greatest n))) (slight (in_units (pos (bulk m * bulk n)) (m.exponent +ℤ n.exponent))) (in_units (pos d) k.exponent)
    (slight_is_fraction (in_units (pos (bulk m * bulk n)) (m.exponent +ℤ n.exponent)) (pow_pos (down (m.exponent +ℤ n.exponent))))
    (slight_no_more (fraction_mul (greatest m) (greatest n)) (in_units (pos (bulk m * bulk n)) (m.exponent +ℤ n.exponent)) (same_below (fraction_mul (greatest m) (greatest n)) (in_units (pos (bulk m * bulk n)) (m.exponent +ℤ n.exponent)) same))
    (slight_fits (bulk m * bulk n) d 0 g (m.exponent +ℤ n.exponent) (m.exponent +ℤ n.exponent) k.exponent e exponents (omega (arith, h, p)))

pub enough_sum : (k m n : Model) (d a b g : ℕ) (t : ℤ) → m.exponent ≡ t +ℤ pos a → n.exponent ≡ t +ℤ pos b → k.exponent ≡ t +ℤ pos g
    → bulk m * 2 ^ a + bulk n * 2 ^ b ≤ d * 2 ^ (58 + g) → IsEnough d k (fraction_add (greatest m) (greatest n))
enough_sum k m n d a b g t first second third h =
    let zero_up : t ≡ t +ℤ pos 0 = omega (arith, lin) in
    let x = units_fit (bulk m) (bulk m * 2 ^ a) a 0 t m.exponent t first zero_up (omega arith) in
    let y = units_fit (bulk n) (bulk n * 2 ^ b) b 0 t n.exponent t second zero_up (omega arith) in
    let s = same_sum (pos (bulk m * 2 ^ a)) (pos (bulk n * 2 ^ b)) t in
    let both = same_through (fraction_add (greatest m) (greatest n)) (fraction_add (in_units (pos (bulk m * 2 ^ a)) t) (in_units (pos (bulk n * 2 ^ b)) t)) (in_units (pos (bulk m * 2 ^ a + bulk n * 2 ^ b)) t)
    (positive_product (2 ^ down t) (2 ^ down t) (pow_pos (down t)) (pow_pos (down t)))
    (add_no_more (greatest m) (in_units (pos (bulk m * 2 ^ a)) t) (greatest n) (in_units (pos (bulk n * 2 ^ b)) t) x y) s in
    let p = power_split d g in
    no_more_trans (slight (fraction_add (greatest m) (greatest n))) (slight (in_units (pos (bulk m * 2 ^ a + bulk n * 2 ^ b)) t)) (in_units (pos d) k.exponent)
    (slight_is_fraction (in_units (pos (bulk m * 2 ^ a + bulk n * 2 ^ b)) t) (pow_pos (down t)))
    (slight_no_more (fraction_add (greatest m) (greatest n)) (in_units (pos (bulk m * 2 ^ a + bulk n * 2 ^ b)) t) both)
    (slight_fits (bulk m * 2 ^ a + bulk n * 2 ^ b) d 0 g t t k.exponent zero_up third (omega (arith, h, p)))

-- two units of 2^s, and a little of 2 / length times the bulk
pub upto_scaled : (k m : Model) (length d a b : ℕ) (s t : ℤ) → 0 < length → s ≤ℤ k.exponent → m.exponent ≡ t +ℤ pos a → k.exponent ≡ t +ℤ pos b
    → 2 * bulk m * 2 ^ a ≤ length * d * 2 ^ (58 + b) → IsUpto (2 + d) k (scaled_loss s m length)
upto_scaled k m length d a b s t positive above first second h =
    let gap = gap_is s k.exponent above in
    let zero_up : s ≡ s +ℤ pos 0 = omega (arith, lin) in
    let one : 0 < 2 ^ int_gap s k.exponent = pow_pos (int_gap s k.exponent) in
    let x = units_fit 2 2 0 (int_gap s k.exponent) s s k.exponent zero_up gap (omega (arith, one)) in
    let p = power_split (length * d) b in
    let y = slight_fits (2 * bulk m) (length * d) a b t m.exponent k.exponent first second (omega (arith, h, p)) in
    let z = divided (bulk m) length d (2 ^ up m.exponent) (2 ^ down m.exponent) (2 ^ up k.exponent) (2 ^ down k.exponent) positive y in
    same_through (scaled_loss s m length) (fraction_add (in_units (pos 2) k.exponent) (in_units (pos d) k.exponent)) (in_units (pos (2 + d)) k.exponent)
    (positive_product (2 ^ down k.exponent) (2 ^ down k.exponent) (pow_pos (down k.exponent)) (pow_pos (down k.exponent)))
    (add_no_more (in_units (pos 2) s) (in_units (pos 2) k.exponent) (slight (fraction_scale (greatest m) length)) (in_units (pos d) k.exponent) x z)
    (same_sum (pos 2) (pos d) k.exponent)
  where
    divided : (n length d um dm uk dk : ℕ) → 0 < length → (pos (2 * n) *ℤ pos um *ℤ pos dk) ≤ℤ (pos (length * d) *ℤ pos uk *ℤ pos (dm * 2 ^ 58))
        → (pos 2 *ℤ (pos n *ℤ pos um) *ℤ pos dk) ≤ℤ (pos d *ℤ pos uk *ℤ pos (dm * length * 2 ^ 58))
    divided n length d um dm uk dk positive h =
        let e = ring (pos n ∷ pos um ∷ pos dk ∷ []) (lit (pos 2) ⊗ (v 0 ⊗ v 1) ⊗ v 2) (lit (pos 2) ⊗ v 0 ⊗ v 1 ⊗ v 2) tt in
        let f = ring (pos length ∷ pos d ∷ pos uk ∷ pos dm ∷ pos (2 ^ 58) ∷ []) (v 0 ⊗ v 1 ⊗ v 2 ⊗ (v 3 ⊗ v 4)) (v 1 ⊗ v 2 ⊗ (v 3 ⊗ v 0 ⊗ v 4)) tt in
        omega (arith, lin)
