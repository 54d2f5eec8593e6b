-- A product whose upper coefficients are in its error.
use Rattle.std.proofs.Common.{◌≡◌, ◌∙◌, ℕ, ◌+◌, ◌*◌, ◌<◌, ◌≤◌, arith, sym, subst, Option, IfSome, List, length, take, ℤ, pos, ◌+ℤ◌}
use Rattle.std.proofs.lemmas.List.{get_or-take, length-take-le}
use Rattle.std.proofs.lemmas.Option.{IfSome_then}
use Rattle.spec_intervals.specs.Fraction.{Fraction, fraction_mul}
use Rattle.spec_chebyshev.specs.Differences.{IsArgument}
use Rattle.spec_models.specs.Models.{Model, IsNear, model, cut, product_model, convolved, sizes}
use Rattle.spec_models.proofs.Coefficients.{same-lists, coefficient-convolved}
use Rattle.span_models.specs.Sizes.{terms, IsSmall}
use Rattle.span_models.specs.Settled.{Reaches}
use Rattle.span_models.specs.Columns.{AreColumns, tail_sizes}
use Rattle.span_models.specs.Near.{IsProductOf}
use Rattle.span_models.proofs.Convolved.{length-convolved, tail-convolved}

-- the first coefficients of a product
pub first_columns : (xs ys zs : List ℤ) → length xs ≡ terms → length ys ≡ terms → length zs ≡ terms → AreColumns xs ys terms zs → zs ≡ take terms (convolved xs ys)
first_columns xs ys zs ex ey ez h =
    let enough : terms ≤ length (convolved xs ys) = (let l = length-convolved xs ys (omega (arith, ex)) in omega (arith, l, ey)) in
    let count : length (take terms (convolved xs ys)) ≡ terms = length-take-le terms (convolved xs ys) enough in
    same-lists zs (take terms (convolved xs ys)) (ez ∙ sym count) (λ k below.
    let inside : k < terms = omega (arith, below, ez) in
    h k inside ∙ sym (coefficient-convolved xs ys k) ∙ sym (get_or-take terms (convolved xs ys) k (pos 0) inside))

module _ (product : (p q : ℤ) → IsArgument p q → (m n : Model) (r z : Fraction) → IsNear m p q r → IsNear n p q z → IsNear (product_model m n) p q (fraction_mul r z))
    (cutting : (p q : ℤ) → IsArgument p q → (n : ℕ) (m : Model) (r : Fraction) → IsNear m p q r → IsNear (cut n m) p q r)
    (greater : (p q : ℤ) → IsArgument p q → (m : Model) (e : ℕ) (r : Fraction) → m.error ≤ e → IsNear m p q r → IsNear (model m.coefficients e m.exponent) p q r) where
  pub product_near : (m n : Model) (xs ys zs : List ℤ) (e : ℕ) (s : ℤ) → xs ≡ m.coefficients → ys ≡ n.coefficients → IsSmall m → IsSmall n → length zs ≡ terms
      → AreColumns xs ys terms zs
      → e ≡ sizes m.coefficients * n.error + sizes n.coefficients * m.error + m.error * n.error + tail_sizes m.coefficients n.coefficients terms
      → s ≡ m.exponent +ℤ n.exponent → IsProductOf (model zs e s) m n
  product_near m n xs ys zs e s ex ey sm sn cz columns error exponent p q r t g near_m near_n =
      let tail = tail-convolved m.coefficients n.coefficients terms in
      let more : (cut terms (product_model m n)).error ≤ e = omega (arith, error, tail) in
      let near = greater p q g (cut terms (product_model m n)) e (fraction_mul r t) more (cutting p q g terms (product_model m n) (fraction_mul r t) (product p q g m n r t near_m near_n)) in
      let same : zs ≡ take terms (convolved m.coefficients n.coefficients) = first_columns m.coefficients n.coefficients zs sm.coefficients.count sn.coefficients.count cz (subst (λ (l : List ℤ). AreColumns l n.coefficients terms zs) ex (subst (λ (l : List ℤ). AreColumns xs l terms zs) ey columns)) in
      subst (λ (k : Model). IsNear k p q (fraction_mul r t)) (λ i. model (sym same i) e (sym exponent i)) near

-- what a call answers that finds a model near which all is that is near the product
pub product_reached : (o : Option Model) (w m n : Model) → IfSome o (λ k. Reaches w k) → IsProductOf w m n → IfSome o (λ k. IsProductOf k m n)
product_reached o w m n h is = IfSome_then o {P = λ k. Reaches w k} {Q = λ k. IsProductOf k m n} h (λ k reaches p q r t g a b. reaches p q (fraction_mul r t) g (is p q r t g a b))
