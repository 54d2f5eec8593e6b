-- How far from 0 keeps what is near a model whose tangent is known.
use Rattle.std.proofs.Common.{◌≡◌, ◌∙◌, ℕ, ◌+◌, ◌*◌, ◌^◌, ◌<◌, arith, sym, ap, subst, List, [], ◌∷◌, length, ℤ, pos, neg_ℤ, ◌+ℤ◌, ◌-ℤ◌, ◌*ℤ◌, ◌≤ℤ◌, ◌<ℤ◌, unsigned_abs, Option, IfSome}
use Rattle.std.proofs.lemmas.Nat.{pow_pos}
use Rattle.std.proofs.lemmas.Option.{IfSome_then}
use borrow.Author.Differences.{up, down}
use Rattle.spec_numbers.specs.Numbers.{power}
use Rattle.spec_numbers.proofs.Order.{lin, le-mul}
use Rattle.spec_numbers.proofs.Ring.{v, k as lit, ◌⊕◌, ◌⊖◌, ◌⊗◌, minus, ring}
use Rattle.spec_intervals.specs.Fraction.{Fraction, IsFraction, fraction, fraction_add, fraction_mul, fraction_sub}
use Rattle.spec_chebyshev.specs.Differences.{IsArgument}
use Rattle.spec_models.specs.Ends.{NoMore, in_units}
use Rattle.spec_models.specs.Models.{Model, IsNear, at, coefficient, constant, cut, model, product_model, raised, sum_model, value, widened}
use Rattle.span_models.specs.declared.margin.Margin.{Margin}
use Rattle.span_models.specs.declared.tangents.Tangent.{Tangent}
use Rattle.span_models.specs.Margins.{KeepsFrom}
use Rattle.span_models.specs.Tangents.{IsMarginOf, IsPlace, line, tangent}
use Rattle.span_models.proofs.NearTangents.{argument_near, of_tangent, own, power-positive, tangent_near}

-- ---- bounds of a number near a model are those of the model's own value, less and more an error
lower : (A Q n : ℤ) (u d m e f : ℕ) → pos m ≡ Q → (((A +ℤ neg_ℤ (pos e) *ℤ Q) *ℤ pos u) *ℤ pos f) ≤ℤ (n *ℤ pos (m * d))
    → ((((A +ℤ pos 0 *ℤ Q) *ℤ pos u) *ℤ pos d -ℤ (pos e *ℤ pos u) *ℤ pos (m * d)) *ℤ pos f) ≤ℤ (n *ℤ pos (m * d * d))
lower A Q n u d m e f em h =
    let more : ((((A +ℤ neg_ℤ (pos e) *ℤ Q) *ℤ pos u) *ℤ pos f) *ℤ pos d) ≤ℤ ((n *ℤ pos (m * d)) *ℤ pos d) = le-mul (((A +ℤ neg_ℤ (pos e) *ℤ Q) *ℤ pos u) *ℤ pos f) (n *ℤ pos (m * d)) (pos d) (omega (arith, lin)) h in
    let left : (((A +ℤ pos 0 *ℤ Q) *ℤ pos u) *ℤ pos d -ℤ (pos e *ℤ pos u) *ℤ (pos m *ℤ pos d)) *ℤ pos f ≡ (((A +ℤ neg_ℤ (pos e) *ℤ Q) *ℤ pos u) *ℤ pos f) *ℤ pos d = ap (λ (z : ℤ). (((A +ℤ pos 0 *ℤ Q) *ℤ pos u) *ℤ pos d -ℤ (pos e *ℤ pos u) *ℤ (z *ℤ pos d)) *ℤ pos f) em ∙ ring (A ∷ Q ∷ pos u ∷ pos d ∷ pos e ∷ pos f ∷ []) ((((v 0 ⊕ lit (pos 0) ⊗ v 1) ⊗ v 2) ⊗ v 3 ⊖ (v 4 ⊗ v 2) ⊗ (v 1 ⊗ v 3)) ⊗ v 5) ((((v 0 ⊕ minus (v 4) ⊗ v 1) ⊗ v 2) ⊗ v 5) ⊗ v 3) tt in
    let right : (n *ℤ (pos m *ℤ pos d)) *ℤ pos d ≡ n *ℤ ((pos m *ℤ pos d) *ℤ pos d) = ring (n ∷ pos m ∷ pos d ∷ []) ((v 0 ⊗ (v 1 ⊗ v 2)) ⊗ v 2) (v 0 ⊗ ((v 1 ⊗ v 2) ⊗ v 2)) tt in
    subst (λ (z : ℤ). z ≤ℤ (n *ℤ pos (m * d * d))) (sym left) (subst (λ (z : ℤ). ((((A +ℤ neg_ℤ (pos e) *ℤ Q) *ℤ pos u) *ℤ pos f) *ℤ pos d) ≤ℤ z) right more)

upper : (A Q n : ℤ) (u d m e f : ℕ) → pos m ≡ Q → (n *ℤ pos (m * d)) ≤ℤ (((A +ℤ pos e *ℤ Q) *ℤ pos u) *ℤ pos f)
    → (n *ℤ pos (m * d * d)) ≤ℤ ((((A +ℤ pos 0 *ℤ Q) *ℤ pos u) *ℤ pos d +ℤ (pos e *ℤ pos u) *ℤ pos (m * d)) *ℤ pos f)
upper A Q n u d m e f em h =
    let more : ((n *ℤ pos (m * d)) *ℤ pos d) ≤ℤ ((((A +ℤ pos e *ℤ Q) *ℤ pos u) *ℤ pos f) *ℤ pos d) = le-mul (n *ℤ pos (m * d)) (((A +ℤ pos e *ℤ Q) *ℤ pos u) *ℤ pos f) (pos d) (omega (arith, lin)) h in
    let left : (((A +ℤ pos 0 *ℤ Q) *ℤ pos u) *ℤ pos d +ℤ (pos e *ℤ pos u) *ℤ (pos m *ℤ pos d)) *ℤ pos f ≡ (((A +ℤ pos e *ℤ Q) *ℤ pos u) *ℤ pos f) *ℤ pos d = ap (λ (z : ℤ). (((A +ℤ pos 0 *ℤ Q) *ℤ pos u) *ℤ pos d +ℤ (pos e *ℤ pos u) *ℤ (z *ℤ pos d)) *ℤ pos f) em ∙ ring (A ∷ Q ∷ pos u ∷ pos d ∷ pos e ∷ pos f ∷ []) ((((v 0 ⊕ lit (pos 0) ⊗ v 1) ⊗ v 2) ⊗ v 3 ⊕ (v 4 ⊗ v 2) ⊗ (v 1 ⊗ v 3)) ⊗ v 5) ((((v 0 ⊕ v 4 ⊗ v 1) ⊗ v 2) ⊗ v 5) ⊗ v 3) tt in
    let right : (n *ℤ (pos m *ℤ pos d)) *ℤ pos d ≡ n *ℤ ((pos m *ℤ pos d) *ℤ pos d) = ring (n ∷ pos m ∷ pos d ∷ []) ((v 0 ⊗ (v 1 ⊗ v 2)) ⊗ v 2) (v 0 ⊗ ((v 1 ⊗ v 2) ⊗ v 2)) tt in
    subst (λ (z : ℤ). (n *ℤ pos (m * d * d)) ≤ℤ z) (sym left) (subst (λ (z : ℤ). z ≤ℤ ((((A +ℤ pos e *ℤ Q) *ℤ pos u) *ℤ pos f) *ℤ pos d)) right more)

-- ---- a margin by such bounds
keeps : (g : Margin) (z : ℤ) (spread : ℕ) (s : ℤ) (r : Fraction) → IsMarginOf z spread s g → NoMore (in_units (z -ℤ pos spread) s) r → NoMore r (in_units (z +ℤ pos spread) s) → KeepsFrom g r
keeps g z spread s r is low high = record {
  some = is.some;
  above = λ h. subst (λ (x : ℤ). NoMore (in_units (pos g.size) x) r) (sym is.unit) (subst (λ (x : ℤ). NoMore (in_units x s) r) (sym (is.above h)) low);
  below = λ h.
      let turned : neg_ℤ (pos g.size) *ℤ pos (2 ^ up s) ≡ neg_ℤ (pos g.size *ℤ pos (2 ^ up s)) = ring (pos g.size ∷ pos (2 ^ up s) ∷ []) (minus (v 0) ⊗ v 1) (minus (v 0 ⊗ v 1)) tt in
      let last : NoMore r (in_units (neg_ℤ (pos g.size)) s) = subst (λ (x : ℤ). NoMore r (in_units x s)) (sym (is.below h)) high in
      subst (λ (x : ℤ). NoMore r (fraction (neg_ℤ (pos g.size *ℤ pos (2 ^ up x))) (2 ^ down x))) (sym is.unit) (subst (λ (x : ℤ). NoMore r (fraction x (2 ^ down s))) turned last);
}

module _ (near : (p q : ℤ) → IsArgument p q → (a : ℤ) (e : ℕ) (s : ℤ) (r : Fraction) → IsFraction r → NoMore (in_units (a -ℤ pos e) s) r → NoMore r (in_units (a +ℤ pos e) s) → IsNear (constant a e s) p q r)
    (low : (p q : ℤ) → IsArgument p q → (a : ℤ) (e : ℕ) (s : ℤ) (r : Fraction) → IsNear (constant a e s) p q r → NoMore (in_units (a -ℤ pos e) s) r)
    (high : (p q : ℤ) → IsArgument p q → (a : ℤ) (e : ℕ) (s : ℤ) (r : Fraction) → IsNear (constant a e s) p q r → NoMore r (in_units (a +ℤ pos e) s))
    (around : (m : Model) (p q : ℤ) (e : ℕ) (r z d : Fraction) → IsArgument p q → IsFraction z → IsFraction d → NoMore d (in_units (pos e) m.exponent) → NoMore (fraction_sub r d) z → NoMore z (fraction_add r d) → IsNear m p q r → IsNear (widened e m) p q z)
    (lines : (p q : ℤ) → IsArgument p q → (a b : ℤ) (c : ℕ) (x y : ℤ) (e f : ℕ) (s : ℤ) → 0 < c → IsNear (constant x e s) p q (fraction a c) → IsNear (constant y f s) p q (fraction (b *ℤ q) c) → IsNear (model (x ∷ y ∷ []) (e + f) s) p q (fraction (a +ℤ b *ℤ p) c))
    (products : (p q : ℤ) → IsArgument p q → (m n : Model) (r z : Fraction) → IsNear m p q r → IsNear n p q z → IsNear (product_model m n) p q (fraction_mul r z))
    (sums : (p q : ℤ) → IsArgument p q → (m n : Model) (r z : Fraction) → m.exponent ≡ n.exponent → IsNear m p q r → IsNear n p q z → IsNear (sum_model m n) p q (fraction_add r z))
    (cutting : (p q : ℤ) → IsArgument p q → (n : ℕ) (m : Model) (r : Fraction) → IsNear m p q r → IsNear (cut n m) p q r)
    (raising : (p q : ℤ) → IsArgument p q → (k : ℕ) (m : Model) (r : Fraction) → IsNear m p q r → IsNear (raised k m) p q r)
    (similar : (p q : ℤ) → IsArgument p q → (m : Model) (ys : List ℤ) (r : Fraction) → ((k : ℕ) → coefficient m.coefficients k ≡ coefficient ys k) → IsNear m p q r → IsNear (model ys m.error m.exponent) p q r)
    (same : (m : Model) (p q : ℤ) (a b : Fraction) → IsFraction b → a.numerator *ℤ pos b.denominator ≡ b.numerator *ℤ pos a.denominator → IsNear m p q a → IsNear m p q b) where
  -- a number near the model is near its tangent
  number_near : (t : Tangent) (m : Model) (o w p q : ℤ) (r : Fraction) → IsArgument o w → pos 0 <ℤ q → IsNear (of_tangent t m.exponent) o w (value (model m.coefficients 0 m.exponent) p q) → IsNear m p q r
      → IsNear (widened m.error (of_tangent t m.exponent)) o w r
  number_near t m o w p q r g h own_value is =
      let own_power : pos (unsigned_abs (power q (length m.coefficients))) ≡ power q (length m.coefficients) = own (power q (length m.coefficients)) (power-positive q (length m.coefficients) h) in
      around (of_tangent t m.exponent) o w m.error (value (model m.coefficients 0 m.exponent) p q) r (in_units (pos m.error) m.exponent) g is.is_fraction (pow_pos (down m.exponent)) (omega (arith, lin))
      (lower (at p q (length m.coefficients) m.coefficients) (power q (length m.coefficients)) r.numerator (2 ^ up m.exponent) (2 ^ down m.exponent) (unsigned_abs (power q (length m.coefficients))) m.error r.denominator own_power is.low)
      (upper (at p q (length m.coefficients) m.coefficients) (power q (length m.coefficients)) r.numerator (2 ^ up m.exponent) (2 ^ down m.exponent) (unsigned_abs (power q (length m.coefficients))) m.error r.denominator own_power is.high)
      own_value

  margin_keeps : (m : Model) (first last q o w : ℤ) → IsPlace first last q o w → pos 0 <ℤ q → (t : Tangent) → t ≡ tangent (line o w q) m.coefficients → (g : Margin) → IsMarginOf t.value (t.error + m.error + unsigned_abs t.slope) m.exponent g
      → (p : ℤ) (r : Fraction) → first ≤ℤ p → p ≤ℤ last → IsNear m p q r → KeepsFrom g r
  margin_keeps m first last q o w place h t is g margin p r from upto near_r =
      let pl = place.low in
      let ph = place.high in
      let a : IsArgument (p -ℤ o) w = record { positive = place.positive; low = omega (arith, lin, pl, from); high = omega (arith, lin, ph, upto) } in
      let whole : o +ℤ pos 1 *ℤ (p -ℤ o) ≡ p = ring (o ∷ p ∷ []) (v 0 ⊕ lit (pos 1) ⊗ (v 1 ⊖ v 0)) (v 1) tt in
      let near_argument = argument_near (p -ℤ o) w a (near (p -ℤ o) w a) (lines (p -ℤ o) w a) o p q h whole in
      let own_value = tangent_near (p -ℤ o) w a (near (p -ℤ o) w a) (products (p -ℤ o) w a) (sums (p -ℤ o) w a) (cutting (p -ℤ o) w a) (raising (p -ℤ o) w a) (similar (p -ℤ o) w a) (λ n x y. same n (p -ℤ o) w x y) (line o w q) p q m.exponent h near_argument m.coefficients in
      let near_t : IsNear (of_tangent t m.exponent) (p -ℤ o) w (value (model m.coefficients 0 m.exponent) p q) = subst (λ (u : Tangent). IsNear (of_tangent u m.exponent) (p -ℤ o) w (value (model m.coefficients 0 m.exponent) p q)) (sym is) own_value in
      let alone = cutting (p -ℤ o) w a 1 (widened m.error (of_tangent t m.exponent)) r (number_near t m (p -ℤ o) w p q r a h near_t near_r) in
      let spread : t.error + m.error + (unsigned_abs t.slope + 0) ≡ t.error + m.error + unsigned_abs t.slope = omega arith in
      let only : IsNear (constant t.value (t.error + m.error + unsigned_abs t.slope) m.exponent) (p -ℤ o) w r = subst (λ (e : ℕ). IsNear (constant t.value e m.exponent) (p -ℤ o) w r) spread alone in
      keeps g t.value (t.error + m.error + unsigned_abs t.slope) m.exponent r margin (low (p -ℤ o) w a t.value (t.error + m.error + unsigned_abs t.slope) m.exponent r only) (high (p -ℤ o) w a t.value (t.error + m.error + unsigned_abs t.slope) m.exponent r only)

  pub margin_known : (m : Model) (first last q a b : ℤ) → IsPlace first last q a b → pos 0 <ℤ q → (t : Tangent) (xs : List ℤ) → xs ≡ m.coefficients → t ≡ tangent (line a b q) xs → (e : ℕ) (s : ℤ) → e ≡ m.error → s ≡ m.exponent
      → (o : Option Margin) → IfSome o (IsMarginOf t.value (t.error + e + unsigned_abs t.slope) s) → IfSome o (λ g. (p : ℤ) (r : Fraction) → first ≤ℤ p → p ≤ℤ last → IsNear m p q r → KeepsFrom g r)
  margin_known m first last q a b place h t xs ex is e s ee es o margin =
      let known : t ≡ tangent (line a b q) m.coefficients = is ∙ ap (tangent (line a b q)) ex in
      IfSome_then o {P = IsMarginOf t.value (t.error + e + unsigned_abs t.slope) s} {Q = λ g. (p : ℤ) (r : Fraction) → first ≤ℤ p → p ≤ℤ last → IsNear m p q r → KeepsFrom g r} margin (λ g is_margin. margin_keeps m first last q a b place h t known g (subst (λ (x : ℤ). IsMarginOf t.value (t.error + m.error + unsigned_abs t.slope) x g) es (subst (λ (x : ℕ). IsMarginOf t.value (t.error + x + unsigned_abs t.slope) s g) ee is_margin)))
