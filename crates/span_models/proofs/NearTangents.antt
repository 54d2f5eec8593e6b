-- What is near the tangent of a polynomial.
use Rattle.std.proofs.Common.{◌≡◌, ◌∙◌, ℕ, zero, suc, ◌+◌, ◌*◌, ◌/◌, ◌^◌, ◌<◌, arith, refl, sym, ap, subst, List, [], ◌∷◌, length, ℤ, pos, negsuc, neg_ℤ, ◌+ℤ◌, ◌-ℤ◌, ◌*ℤ◌, ◌≤ℤ◌, ◌<ℤ◌, unsigned_abs}
use Rattle.std.proofs.lemmas.Int.{ints}
use Rattle.std.proofs.lemmas.Nat.{pow_pos}
use borrow.Author.Differences.{up, down}
use Rattle.spec_numbers.specs.Numbers.{floor_div, power}
use Rattle.spec_numbers.proofs.Floor.{floor_div-le, floor_div-lt}
use Rattle.spec_numbers.proofs.Naturals.{positive_product}
use Rattle.spec_numbers.proofs.Order.{lin}
use Rattle.spec_numbers.proofs.Ring.{v, k as lit, ◌⊕◌, ◌⊖◌, ◌⊗◌, ring}
use Rattle.spec_numbers.proofs.Sizes.{own_size}
use Rattle.spec_intervals.specs.Fraction.{Fraction, IsFraction, fraction, fraction_add, fraction_mul}
use Rattle.spec_chebyshev.specs.Differences.{IsArgument}
use Rattle.spec_models.specs.Ends.{NoMore, in_units}
use Rattle.spec_models.specs.Models.{Model, IsNear, at, coefficient, constant, cut, model, product_model, raised, sum_model, value}
use Rattle.span_models.specs.declared.tangents.Line.{Line}
use Rattle.span_models.specs.declared.tangents.Tangent.{Tangent}
use Rattle.span_models.specs.Tangents.{next, next_error, ratio, tangent}

abbrev unit : ℤ
unit = neg_ℤ (pos 56)

-- the line of a tangent as a model
abbrev pub of_tangent : Tangent → ℤ → Model
of_tangent t s = model (t.value ∷ t.slope ∷ []) t.error s

-- ---- plain numbers
pub power-positive : (q : ℤ) (n : ℕ) → pos 0 <ℤ q → pos 0 <ℤ power q n
power-positive q zero h = omega (arith, ints)
power-positive (pos (suc c)) (suc n) h = by (power (pos (suc c)) n) (power-positive (pos (suc c)) n h)
  where
    by : (z : ℤ) → pos 0 <ℤ z → pos 0 <ℤ (pos (suc c) *ℤ z)
    by (pos zero) g = absurd (omega (arith, ints, g))
    by (pos (suc m)) g = omega (arith, ints)
    by (negsuc m) g = absurd (omega (arith, ints, g))
power-positive (pos zero) (suc n) h = absurd (omega (arith, ints, h))
power-positive (negsuc c) (suc n) h = absurd (omega (arith, ints, h))

pub own : (z : ℤ) → pos 0 <ℤ z → pos (unsigned_abs z) ≡ z
own z h = own_size z (omega (arith, ints, h))

size-positive : (z : ℤ) → pos 0 <ℤ z → 0 < unsigned_abs z
size-positive z h = omega (arith, ints, h)

-- the value with one coefficient more, in two forms
same_value : (a p A q Q : ℤ) (u d c n m : ℕ) → pos c ≡ q → pos n ≡ Q → pos m ≡ q *ℤ Q
    → ((a *ℤ pos u) *ℤ pos (c * (n * d)) +ℤ (p *ℤ ((A +ℤ pos 0 *ℤ Q) *ℤ pos u)) *ℤ pos d) *ℤ pos (m * d)
    ≡ (((a *ℤ (q *ℤ Q) +ℤ p *ℤ A) +ℤ pos 0 *ℤ (q *ℤ Q)) *ℤ pos u) *ℤ pos (d * (c * (n * d)))
same_value a p A q Q u d c n m ec en em =
    ap (λ (z : ℤ). ((a *ℤ pos u) *ℤ pos (c * (n * d)) +ℤ (p *ℤ ((A +ℤ pos 0 *ℤ Q) *ℤ pos u)) *ℤ pos d) *ℤ (z *ℤ pos d)) em
    ∙ (λ i. ((a *ℤ pos u) *ℤ (ec i *ℤ (en i *ℤ pos d)) +ℤ (p *ℤ ((A +ℤ pos 0 *ℤ Q) *ℤ pos u)) *ℤ pos d) *ℤ ((q *ℤ Q) *ℤ pos d))
    ∙ ring (a ∷ p ∷ A ∷ q ∷ Q ∷ pos u ∷ pos d ∷ []) (((v 0 ⊗ v 5) ⊗ (v 3 ⊗ (v 4 ⊗ v 6)) ⊕ (v 1 ⊗ ((v 2 ⊕ lit (pos 0) ⊗ v 4) ⊗ v 5)) ⊗ v 6) ⊗ ((v 3 ⊗ v 4) ⊗ v 6)) ((((v 0 ⊗ (v 3 ⊗ v 4) ⊕ v 1 ⊗ v 2) ⊕ lit (pos 0) ⊗ (v 3 ⊗ v 4)) ⊗ v 5) ⊗ (v 6 ⊗ (v 3 ⊗ (v 4 ⊗ v 6)))) tt
    ∙ (λ i. (((a *ℤ (q *ℤ Q) +ℤ p *ℤ A) +ℤ pos 0 *ℤ (q *ℤ Q)) *ℤ pos u) *ℤ (pos d *ℤ (sym ec i *ℤ (sym en i *ℤ pos d))))

-- ---- the laws, at one argument of the tangent
module _ (o w : ℤ) (g : IsArgument o w)
    (near : (a : ℤ) (e : ℕ) (s : ℤ) (r : Fraction) → IsFraction r → NoMore (in_units (a -ℤ pos e) s) r → NoMore r (in_units (a +ℤ pos e) s) → IsNear (constant a e s) o w r) where
  -- a quotient, rounded down
  ratio_near : (z q : ℤ) → pos 0 <ℤ q → IsNear (constant (ratio z q) 1 unit) o w (fraction z (unsigned_abs q))
  ratio_near z q h =
      let c : ℕ = unsigned_abs q in
      let positive : 0 < unsigned_abs q = size-positive q h in
      let below : (ratio z q *ℤ pos (unsigned_abs q)) ≤ℤ (z *ℤ pos (2 ^ 56)) = floor_div-le (z *ℤ pos (2 ^ 56)) (unsigned_abs q) positive in
      let above : (z *ℤ pos (2 ^ 56)) <ℤ (ratio z q *ℤ pos (unsigned_abs q) +ℤ pos (unsigned_abs q)) = floor_div-lt (z *ℤ pos (2 ^ 56)) (unsigned_abs q) positive in
      let less : ((ratio z q -ℤ pos 1) *ℤ pos 1) *ℤ pos (unsigned_abs q) ≡ ratio z q *ℤ pos (unsigned_abs q) -ℤ pos (unsigned_abs q) = ring (ratio z q ∷ pos (unsigned_abs q) ∷ []) (((v 0 ⊖ lit (pos 1)) ⊗ lit (pos 1)) ⊗ v 1) (v 0 ⊗ v 1 ⊖ v 1) tt in
      let more : ((ratio z q +ℤ pos 1) *ℤ pos 1) *ℤ pos (unsigned_abs q) ≡ ratio z q *ℤ pos (unsigned_abs q) +ℤ pos (unsigned_abs q) = ring (ratio z q ∷ pos (unsigned_abs q) ∷ []) (((v 0 ⊕ lit (pos 1)) ⊗ lit (pos 1)) ⊗ v 1) (v 0 ⊗ v 1 ⊕ v 1) tt in
      near (ratio z q) 1 unit (fraction z (unsigned_abs q)) positive (rw less (omega (arith, lin, below))) (rw more (omega (arith, lin, above)))

  -- the argument (m + o) / q, where m / q is in the middle and w / q the width
  pub argument_near : ((a b : ℤ) (c : ℕ) (x y : ℤ) (e f : ℕ) (s : ℤ) → 0 < c → IsNear (constant x e s) o w (fraction a c) → IsNear (constant y f s) o w (fraction (b *ℤ w) c) → IsNear (model (x ∷ y ∷ []) (e + f) s) o w (fraction (a +ℤ b *ℤ o) c))
      → (m p q : ℤ) → pos 0 <ℤ q → m +ℤ pos 1 *ℤ o ≡ p → IsNear (model (ratio m q ∷ ratio w q ∷ []) 2 unit) o w (fraction p (unsigned_abs q))
  argument_near lines m p q h e =
      let one : w ≡ pos 1 *ℤ w = ring (w ∷ []) (v 0) (lit (pos 1) ⊗ v 0) tt in
      let width : IsNear (constant (ratio w q) 1 unit) o w (fraction (pos 1 *ℤ w) (unsigned_abs q)) = subst (λ (z : ℤ). IsNear (constant (ratio w q) 1 unit) o w (fraction z (unsigned_abs q))) one (ratio_near w q h) in
      subst (λ (z : ℤ). IsNear (model (ratio m q ∷ ratio w q ∷ []) 2 unit) o w (fraction z (unsigned_abs q))) e (lines m (pos 1) (unsigned_abs q) (ratio m q) (ratio w q) 1 1 unit (size-positive q h) (ratio_near m q h) width)

  -- a whole number of units
  units_near : (a s : ℤ) → IsNear (constant a 0 s) o w (in_units a s)
  units_near a s =
      let less : a -ℤ pos 0 ≡ a = omega (arith, lin) in
      let more : a +ℤ pos 0 ≡ a = omega (arith, lin) in
      near a 0 s (in_units a s) (pow_pos (down s)) (subst (λ (z : ℤ). NoMore (in_units z s) (in_units a s)) (sym less) (omega (arith, lin))) (subst (λ (z : ℤ). NoMore (in_units a s) (in_units z s)) (sym more) (omega (arith, lin)))

  module _ (products : (m n : Model) (r z : Fraction) → IsNear m o w r → IsNear n o w z → IsNear (product_model m n) o w (fraction_mul r z))
      (sums : (m n : Model) (r z : Fraction) → m.exponent ≡ n.exponent → IsNear m o w r → IsNear n o w z → IsNear (sum_model m n) o w (fraction_add r z))
      (cutting : (n : ℕ) (m : Model) (r : Fraction) → IsNear m o w r → IsNear (cut n m) o w r)
      (raising : (k : ℕ) (m : Model) (r : Fraction) → IsNear m o w r → IsNear (raised k m) o w r) where
    -- one coefficient more
    step_near : (l : Line) (t : Tangent) (a s : ℤ) (x r : Fraction) → IsNear (model (l.centre ∷ l.width ∷ []) 2 unit) o w x → IsNear (of_tangent t s) o w r
        → IsNear (of_tangent (next l t a) s) o w (fraction_add (in_units a s) (fraction_mul x r))
    step_near l t a s x r near_x near_r =
        let moved : Model = raised 56 (cut 2 (product_model (model (l.centre ∷ l.width ∷ []) 2 unit) (of_tangent t s))) in
        let exponent : s ≡ (raised 56 (cut 2 (product_model (model (l.centre ∷ l.width ∷ []) 2 unit) (of_tangent t s)))).exponent = omega (arith, ints) in
        let near_moved = raising 56 (cut 2 (product_model (model (l.centre ∷ l.width ∷ []) 2 unit) (of_tangent t s))) (fraction_mul x r) (cutting 2 (product_model (model (l.centre ∷ l.width ∷ []) 2 unit) (of_tangent t s)) (fraction_mul x r) (products (model (l.centre ∷ l.width ∷ []) 2 unit) (of_tangent t s) x r near_x near_r)) in
        let near_sum = sums (constant a 0 s) (raised 56 (cut 2 (product_model (model (l.centre ∷ l.width ∷ []) 2 unit) (of_tangent t s)))) (in_units a s) (fraction_mul x r) exponent (units_near a s) near_moved in
        let first : l.centre *ℤ t.value +ℤ pos 0 ≡ l.centre *ℤ t.value = omega (arith, lin) in
        let second : l.centre *ℤ t.slope +ℤ (l.width *ℤ t.value +ℤ pos 0) ≡ l.centre *ℤ t.slope +ℤ l.width *ℤ t.value = omega (arith, lin) in
        let es : unsigned_abs l.centre + (unsigned_abs l.width + 0) ≡ unsigned_abs l.centre + unsigned_abs l.width = omega arith in
        let et : unsigned_abs t.value + (unsigned_abs t.slope + 0) ≡ unsigned_abs t.value + unsigned_abs t.slope = omega arith in
        let eb : unsigned_abs (l.width *ℤ t.slope) + 0 ≡ unsigned_abs (l.width *ℤ t.slope) = omega arith in
        let whole : (unsigned_abs l.centre + (unsigned_abs l.width + 0)) * t.error + (unsigned_abs t.value + (unsigned_abs t.slope + 0)) * 2 + 2 * t.error + (unsigned_abs (l.width *ℤ t.slope) + 0) ≡ (unsigned_abs l.centre + unsigned_abs l.width) * t.error + (unsigned_abs t.value + unsigned_abs t.slope) * 2 + 2 * t.error + unsigned_abs (l.width *ℤ t.slope) = (λ i. es i * t.error + et i * 2 + 2 * t.error + eb i) in
        let error : 0 + (suc (((unsigned_abs l.centre + (unsigned_abs l.width + 0)) * t.error + (unsigned_abs t.value + (unsigned_abs t.slope + 0)) * 2 + 2 * t.error + (unsigned_abs (l.width *ℤ t.slope) + 0)) / 2 ^ 56) + 2) ≡ next_error l t = omega arith ∙ ap (λ n. n / 2 ^ 56 + 3) whole in
        subst (λ (k : Model). IsNear k o w (fraction_add (in_units a s) (fraction_mul x r))) (λ i. model ((a +ℤ floor_div (first i) (2 ^ 56)) ∷ floor_div (second i) (2 ^ 56) ∷ []) (error i) s) near_sum

    -- all coefficients
    module _ (similar : (m : Model) (ys : List ℤ) (r : Fraction) → ((k : ℕ) → coefficient m.coefficients k ≡ coefficient ys k) → IsNear m o w r → IsNear (model ys m.error m.exponent) o w r)
        (same : (m : Model) (a b : Fraction) → IsFraction b → a.numerator *ℤ pos b.denominator ≡ b.numerator *ℤ pos a.denominator → IsNear m o w a → IsNear m o w b) where
      same_none : (k : ℕ) → coefficient (pos 0 ∷ []) k ≡ coefficient (pos 0 ∷ pos 0 ∷ []) k
      same_none zero = refl
      same_none (suc zero) = refl
      same_none (suc (suc k)) = refl

      none_near : (l : Line) (p q s : ℤ) → IsNear (of_tangent (tangent l []) s) o w (value (model [] 0 s) p q)
      none_near l p q s =
          let one : 1 * 2 ^ down s ≡ 2 ^ down s = omega arith in
          let none = same (constant (pos 0) 0 s) (in_units (pos 0) s) (value (model [] 0 s) p q) (positive_product 1 (2 ^ down s) (omega arith) (pow_pos (down s))) (ap (λ n. pos (0 * 2 ^ up s * n)) one) (units_near (pos 0) s) in
          similar (constant (pos 0) 0 s) (pos 0 ∷ pos 0 ∷ []) (value (model [] 0 s) p q) same_none none

      pub tangent_near : (l : Line) (p q s : ℤ) → pos 0 <ℤ q → IsNear (model (l.centre ∷ l.width ∷ []) 2 unit) o w (fraction p (unsigned_abs q)) → (xs : List ℤ) → IsNear (of_tangent (tangent l xs) s) o w (value (model xs 0 s) p q)
      tangent_near l p q s h near_x [] = none_near l p q s
      tangent_near l p q s h near_x (a ∷ xs) =
          let Q : ℤ = power q (length xs) in
          let positive : pos 0 <ℤ power q (length xs) = power-positive q (length xs) h in
          let next_positive : pos 0 <ℤ (q *ℤ power q (length xs)) = power-positive q (suc (length xs)) h in
          let stepped = step_near l (tangent l xs) a s (fraction p (unsigned_abs q)) (value (model xs 0 s) p q) near_x (tangent_near l p q s h near_x xs) in
          same (of_tangent (tangent l (a ∷ xs)) s) (fraction_add (in_units a s) (fraction_mul (fraction p (unsigned_abs q)) (value (model xs 0 s) p q))) (value (model (a ∷ xs) 0 s) p q) (positive_product (unsigned_abs (q *ℤ power q (length xs))) (2 ^ down s) (size-positive (q *ℤ power q (length xs)) next_positive) (pow_pos (down s))) (same_value a p (at p q (length xs) xs) q (power q (length xs)) (2 ^ up s) (2 ^ down s) (unsigned_abs q) (unsigned_abs (power q (length xs))) (unsigned_abs (q *ℤ power q (length xs))) (own q h) (own (power q (length xs)) positive) (own (q *ℤ power q (length xs)) next_positive)) stepped
