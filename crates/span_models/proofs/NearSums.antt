-- What is near a model is near it in a coarser unit, and sums of what is near two.
use Rattle.std.proofs.Common.{◌≡◌, ◌∙◌, ℕ, zero, suc, ◌+◌, ◌*◌, ◌/◌, ◌^◌, arith, refl, sym, subst, Option, IfSome, List, [], ◌∷◌, length, ℤ, pos, ◌+ℤ◌, ◌-ℤ◌, ◌*ℤ◌, neg_ℤ}
use Rattle.std.proofs.lemmas.Int.{ints}
use Rattle.std.proofs.lemmas.Option.{IfSome_then}
use Rattle.spec_numbers.proofs.Floor.{floor_div-one}
use Rattle.spec_numbers.proofs.Ring.{v, ◌⊕◌, ◌⊖◌, ◌⊗◌, minus, ring}
use Rattle.spec_intervals.specs.Fraction.{Fraction, fraction, fraction_add, fraction_sub}
use Rattle.spec_intervals.proofs.Sums.{fraction_add-comm}
use Rattle.spec_chebyshev.specs.Differences.{IsArgument}
use Rattle.spec_models.specs.Models.{Model, IsNear, model, raised, halved, added, negated, sum_model}
use Rattle.span_models.specs.Sizes.{terms, IsSmall}
use Rattle.span_models.specs.Settled.{Reaches, raised_error, at_coarser}
use Rattle.span_models.specs.Near.{IsSumOf, IsDifferenceOf}

halved-none : (xs : List ℤ) → halved 0 xs ≡ xs
halved-none [] = refl
halved-none (x ∷ xs) = λ i. floor_div-one x i ∷ halved-none xs i

module _ (raising : (p q : ℤ) → IsArgument p q → (k : ℕ) (m : Model) (r : Fraction) → IsNear m p q r → IsNear (raised k m) p q r) where
  -- a coarser unit
  pub coarser_near : (k : ℕ) (m : Model) → length m.coefficients ≡ terms → Reaches m (at_coarser k m)
  coarser_near zero m count p q r g near =
      let e : m.exponent ≡ m.exponent +ℤ pos 0 = omega (arith, ints) in
      subst (λ (n : Model). IsNear n p q r) (λ i. model (sym (halved-none m.coefficients) i) m.error (e i)) near
  coarser_near (suc k) m count p q r g near =
      let e : suc (m.error / 2 ^ suc k) + length m.coefficients ≡ m.error / 2 ^ suc k + suc terms = omega (arith, count) in
      subst (λ (n : Model). IsNear n p q r) (λ i. model (halved (suc k) m.coefficients) (e i) (m.exponent +ℤ pos (suc k))) (raising p q g (suc k) m r near)

  -- the sum in the coarser unit
  pub sum_near : ((p q : ℤ) → IsArgument p q → (m n : Model) (r z : Fraction) → m.exponent ≡ n.exponent → IsNear m p q r → IsNear n p q z → IsNear (sum_model m n) p q (fraction_add r z))
      → (k : ℕ) (m n : Model) (xs ys zs : List ℤ) (d e : ℕ) (a b : ℤ) → xs ≡ m.coefficients → ys ≡ n.coefficients → d ≡ m.error → a ≡ m.exponent → b ≡ n.exponent → IsSmall m
      → zs ≡ added (halved k xs) ys → e ≡ raised_error k d + n.error → a +ℤ pos k ≡ b → IsSumOf (model zs e b) m n
  sum_near sums k m n xs ys zs d e a b ex ey ed ea eb small numbers error at p q r t g near_m near_n =
      let count = small.coefficients.count in
      let exponent : m.exponent +ℤ pos k ≡ n.exponent = (λ i. sym ea i +ℤ pos k) ∙ at ∙ eb in
      let coefficients : zs ≡ added (halved k m.coefficients) n.coefficients = numbers ∙ (λ i. added (halved k (ex i)) (ey i)) in
      let errors : e ≡ raised_error k m.error + n.error = error ∙ (λ i. raised_error k (ed i) + n.error) in
      subst (λ (l : Model). IsNear l p q (fraction_add r t)) (λ i. model (sym coefficients i) (sym errors i) ((exponent ∙ sym eb) i)) (sums p q g (at_coarser k m) n r t exponent (coarser_near k m count p q r g near_m) near_n)

sum_turned : (k m n : Model) → IsSumOf k m n → IsSumOf k n m
sum_turned k m n h p q r t g near_n near_m = subst (λ (z : Fraction). IsNear k p q z) (fraction_add-comm t r) (h p q t r g near_m near_n)

-- a sum with what is negated
less : (r t : Fraction) → fraction_add r (fraction (neg_ℤ t.numerator) t.denominator) ≡ fraction_sub r t
less r t =
    let e : r.numerator *ℤ pos t.denominator +ℤ neg_ℤ t.numerator *ℤ pos r.denominator ≡ r.numerator *ℤ pos t.denominator -ℤ t.numerator *ℤ pos r.denominator = ring (r.numerator ∷ pos t.denominator ∷ t.numerator ∷ pos r.denominator ∷ []) (v 0 ⊗ v 1 ⊕ minus (v 2) ⊗ v 3) (v 0 ⊗ v 1 ⊖ v 2 ⊗ v 3) tt in
    λ i. fraction (e i) (r.denominator * t.denominator)

difference_near : ((p q : ℤ) → IsArgument p q → (m : Model) (r : Fraction) → IsNear m p q r → IsNear (negated m) p q (fraction (neg_ℤ r.numerator) r.denominator))
    → (k m n : Model) → IsSumOf k m (negated n) → IsDifferenceOf k m n
difference_near negation k m n h p q r t g near_m near_n =
    subst (λ (z : Fraction). IsNear k p q z) (less r t) (h p q r (fraction (neg_ℤ t.numerator) t.denominator) g near_m (negation p q g n t near_n))

-- what a call answers
pub sum_reached : (o : Option Model) (w m n : Model) → IfSome o (λ k. Reaches w k) → IsSumOf w m n → IfSome o (λ k. IsSumOf k m n)
sum_reached o w m n h is = IfSome_then o {P = λ k. Reaches w k} {Q = λ k. IsSumOf k m n} h (λ k reaches p q r t g a b. reaches p q (fraction_add r t) g (is p q r t g a b))

pub sum_swapped : (o : Option Model) (m n : Model) → IfSome o (λ k. IsSumOf k m n) → IfSome o (λ k. IsSumOf k n m)
sum_swapped o m n h = IfSome_then o {P = λ k. IsSumOf k m n} {Q = λ k. IsSumOf k n m} h (λ k is. sum_turned k m n is)

pub difference_reached : ((p q : ℤ) → IsArgument p q → (m : Model) (r : Fraction) → IsNear m p q r → IsNear (negated m) p q (fraction (neg_ℤ r.numerator) r.denominator))
    → (o : Option Model) (m n l : Model) → l ≡ negated n → IfSome o (λ k. IsSumOf k m l) → IfSome o (λ k. IsDifferenceOf k m n)
difference_reached negation o m n l e h = IfSome_then o {P = λ k. IsSumOf k m l} {Q = λ k. IsDifferenceOf k m n} h (λ k is. difference_near negation k m n (subst (λ (x : Model). IsSumOf k m x) e is))
