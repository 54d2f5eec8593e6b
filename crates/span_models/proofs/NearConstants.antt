-- The product of a number and what is near a model.
use Rattle.std.proofs.Common.{◌≡◌, ◌∙◌, ℕ, zero, suc, ◌+◌, ◌*◌, ◌<◌, ◌≤◌, ◌⊎◌, inl, inr, arith, sym, subst, Option, IfSome, List, [], ◌∷◌, length, ℤ, pos, ◌+ℤ◌, ◌*ℤ◌, unsigned_abs}
use Rattle.std.proofs.lemmas.Bool.{cases_lt}
use Rattle.std.proofs.lemmas.Int.{ints}
use Rattle.std.proofs.lemmas.Option.{IfSome_then}
use Rattle.spec_numbers.proofs.Ring.{v, ◌⊗◌, ring}
use Rattle.spec_intervals.specs.Fraction.{Fraction, fraction, fraction_mul}
use Rattle.spec_chebyshev.specs.Differences.{IsArgument}
use Rattle.spec_models.specs.Models.{Model, IsNear, coefficient, constant, convolved, model, product_model, sizes}
use Rattle.spec_models.proofs.Coefficients.{coefficient-by_constant, coefficient-past}
use Rattle.span_models.specs.Columns.{IsConstant}
use Rattle.span_models.specs.Near.{IsProductOf}
use Rattle.span_models.specs.Sizes.{IsSmall, terms}

-- the first coefficient alone
first_alone : (xs : List ℤ) (z : ℤ) → length xs ≡ terms → IsConstant xs → z ≡ coefficient xs 0 → (k : ℕ) → coefficient xs k ≡ coefficient (z ∷ []) k
first_alone xs z count none first zero = sym first
first_alone xs z count none first (suc k) = by (cases_lt (suc k) terms)
  where
    by : (suc k < terms) ⊎ (terms ≤ suc k) → coefficient xs (suc k) ≡ pos 0
    by (inl below) = none k below
    by (inr beyond) = coefficient-past xs (suc k) (omega (arith, count, beyond))

products_are : (z : ℤ) (ys zs : List ℤ) → length ys ≡ terms → length zs ≡ terms → ((k : ℕ) → k < terms → coefficient zs k ≡ z *ℤ coefficient ys k) → (k : ℕ) → coefficient (convolved (z ∷ []) ys) k ≡ coefficient zs k
products_are z ys zs from count are k = coefficient-by_constant z ys k ∙ by (cases_lt k terms)
  where
    nothing : (x : ℤ) → x *ℤ pos 0 ≡ pos 0
    nothing x = omega (arith, ints)

    by : (k < terms) ⊎ (terms ≤ k) → z *ℤ coefficient ys k ≡ coefficient zs k
    by (inl below) = sym (are k below)
    by (inr beyond) = (λ i. z *ℤ coefficient-past ys k (omega (arith, from, beyond)) i) ∙ nothing z ∙ sym (coefficient-past zs k (omega (arith, count, beyond)))

module _ (product : (p q : ℤ) → IsArgument p q → (m n : Model) (r z : Fraction) → IsNear m p q r → IsNear n p q z → IsNear (product_model m n) p q (fraction_mul r z))
    (similar : (p q : ℤ) → IsArgument p q → (m : Model) (ys : List ℤ) (r : Fraction) → ((k : ℕ) → coefficient m.coefficients k ≡ coefficient ys k) → IsNear m p q r → IsNear (model ys m.error m.exponent) p q r)
    (greater : (p q : ℤ) → IsArgument p q → (m : Model) (e : ℕ) (r : Fraction) → m.error ≤ e → IsNear m p q r → IsNear (model m.coefficients e m.exponent) p q r) where
  pub constant_near : (c m : Model) (z : ℤ) (zs : List ℤ) (e : ℕ) (s : ℤ) → IsConstant c.coefficients → IsSmall c → IsSmall m → z ≡ coefficient c.coefficients 0 → length zs ≡ terms
      → ((k : ℕ) → k < terms → coefficient zs k ≡ z *ℤ coefficient m.coefficients k)
      → e ≡ unsigned_abs z * m.error + sizes m.coefficients * c.error + c.error * m.error → s ≡ c.exponent +ℤ m.exponent → IsProductOf (model zs e s) c m
  constant_near c m z zs e s none sc sm first count are error exponent p q r t g near_c near_m =
      let own = similar p q g c (z ∷ []) r (first_alone c.coefficients z sc.coefficients.count none first) near_c in
      let whole = product p q g (constant z c.error c.exponent) m r t own near_m in
      let numbers = similar p q g (product_model (constant z c.error c.exponent) m) zs (fraction_mul r t) (products_are z m.coefficients zs sm.coefficients.count count are) whole in
      let more : (product_model (constant z c.error c.exponent) m).error ≤ e = enough (unsigned_abs z) m.error (sizes m.coefficients * c.error) (c.error * m.error) error in
      subst (λ (u : ℤ). IsNear (model zs e u) p q (fraction_mul r t)) (sym exponent) (greater p q g (model zs (product_model (constant z c.error c.exponent) m).error (c.exponent +ℤ m.exponent)) e (fraction_mul r t) more numbers)
    where
      enough : (a b x y : ℕ) → e ≡ a * b + x + y → (a + 0) * b + x + y ≤ e
      enough a b x y is = let f : (a + 0) * b ≡ a * b = (let h : a + 0 ≡ a = omega arith in λ i. h i * b) in omega (arith, f, is)

-- products the other way round
mul_comm : (r t : Fraction) → fraction_mul r t ≡ fraction_mul t r
mul_comm r t =
    let e : r.numerator *ℤ t.numerator ≡ t.numerator *ℤ r.numerator = ring (r.numerator ∷ t.numerator ∷ []) (v 0 ⊗ v 1) (v 1 ⊗ v 0) tt in
    let f : r.denominator * t.denominator ≡ t.denominator * r.denominator = omega arith in
    λ i. fraction (e i) (f i)

product_turned : (k m n : Model) → IsProductOf k m n → IsProductOf k n m
product_turned k m n h p q r t g near_n near_m = subst (λ (z : Fraction). IsNear k p q z) (mul_comm t r) (h p q t r g near_m near_n)

pub product_swapped : (o : Option Model) (m n : Model) → IfSome o (λ k. IsProductOf k m n) → IfSome o (λ k. IsProductOf k n m)
product_swapped o m n h = IfSome_then o {P = λ k. IsProductOf k m n} {Q = λ k. IsProductOf k n m} h (λ k is. product_turned k m n is)
