-- Discs that lie within others. With A' = A - r^2, B' = B - s^2 and E = D - r s, a front disc covers a back disc where
-- E is at least 0, E^2 at least A' B', and the front disc is no smaller. The proof looks at (p, r), (q, s) and (w, 0) as
-- vectors of four numbers, with the product p.q - r s, and at what is left of the first and the third beside the second.
use Rattle.std.proofs.Common.{◌≡◌, arith, ap, ◌∙◌, [], ◌∷◌, ℤ, pos, ◌+ℤ◌, ◌-ℤ◌, ◌*ℤ◌, neg_ℤ, ◌≤ℤ◌, ◌<ℤ◌}
use Rattle.std.proofs.lemmas.Int.{by_lt_z}
use Rattle.spec_numbers.proofs.Ring.{v, ◌⊕◌, ◌⊖◌, ◌⊗◌, minus, ring}
use Rattle.spec_numbers.proofs.Order.{lin, le-mul, nonneg-square}
use Rattle.spec_numbers.proofs.Whole.{mul_comm, nonneg-mul}
use Rattle.spec_intervals.specs.Interval.{signed_sq}
use Rattle.spec_meanings.specs.Space.{Triple, dot, square}
use Rattle.spec_meanings.specs.Rays.{combined, IsSphere, Covers}
use Rattle.spec_meanings.specs.Angles.{IsNoSmaller}
use Rattle.spec_meanings.proofs.Cancel.{positive-mul, cancel_le, cancel_low, low_from_squares, le-products}
use Rattle.spec_meanings.proofs.Rays.{square_low, cauchy, distance, towards, meets_close}
use Rattle.spec_meanings.proofs.Overlaps.{root_low}
use Rattle.spec_meanings.proofs.Variables.{inner, together, triple}

-- ---- B' r >= E s, in numbers: a and b stand for A' and B'
module _ (a b e r s : ℤ) (b0 : pos 0 <ℤ b) (e0 : pos 0 ≤ℤ e) (r0 : pos 0 ≤ℤ r) (s0 : pos 0 ≤ℤ s) (inside : (a *ℤ b) ≤ℤ (e *ℤ e)) (larger : ((s *ℤ s) *ℤ a) ≤ℤ ((r *ℤ r) *ℤ b)) (causal : ((e *ℤ e -ℤ a *ℤ b) *ℤ (b +ℤ s *ℤ s)) ≤ℤ ((e *ℤ s -ℤ b *ℤ r) *ℤ (e *ℤ s -ℤ b *ℤ r))) where
  -- against g = E s - B' r above 0
  against : pos 0 <ℤ (e *ℤ s -ℤ b *ℤ r) → ⊥
  against g0 =
      let es : pos 0 ≤ℤ (e *ℤ s) = nonneg-mul e s e0 s0 in
      let br : pos 0 ≤ℤ (b *ℤ r) = nonneg-mul b r (omega (arith, lin)) r0 in
      let ss : pos 0 ≤ℤ (s *ℤ s) = nonneg-square s in
      -- g (E s + B' r) <= s^2 (E^2 - A' B')
      let l : (((s *ℤ s) *ℤ a) *ℤ b) ≤ℤ (((r *ℤ r) *ℤ b) *ℤ b) = le-mul ((s *ℤ s) *ℤ a) ((r *ℤ r) *ℤ b) b (omega (arith, lin)) larger in
      let i : (e *ℤ s +ℤ b *ℤ r) *ℤ (e *ℤ s -ℤ b *ℤ r) ≡ (s *ℤ s) *ℤ (e *ℤ e -ℤ a *ℤ b) +ℤ (((s *ℤ s) *ℤ a) *ℤ b -ℤ ((r *ℤ r) *ℤ b) *ℤ b) = ring (a ∷ b ∷ e ∷ r ∷ s ∷ []) ((v 2 ⊗ v 4 ⊕ v 1 ⊗ v 3) ⊗ (v 2 ⊗ v 4 ⊖ v 1 ⊗ v 3)) ((v 4 ⊗ v 4) ⊗ (v 2 ⊗ v 2 ⊖ v 0 ⊗ v 1) ⊕ (((v 4 ⊗ v 4) ⊗ v 0) ⊗ v 1 ⊖ ((v 3 ⊗ v 3) ⊗ v 1) ⊗ v 1)) tt in
      let h1 : ((e *ℤ s +ℤ b *ℤ r) *ℤ (e *ℤ s -ℤ b *ℤ r)) ≤ℤ ((s *ℤ s) *ℤ (e *ℤ e -ℤ a *ℤ b)) = omega (arith, lin) in
      -- times B, which is b + s^2
      let bs : pos 0 ≤ℤ (b +ℤ s *ℤ s) = omega (arith, lin) in
      let h2 : (((e *ℤ s +ℤ b *ℤ r) *ℤ (e *ℤ s -ℤ b *ℤ r)) *ℤ (b +ℤ s *ℤ s)) ≤ℤ (((s *ℤ s) *ℤ (e *ℤ e -ℤ a *ℤ b)) *ℤ (b +ℤ s *ℤ s)) = le-mul ((e *ℤ s +ℤ b *ℤ r) *ℤ (e *ℤ s -ℤ b *ℤ r)) ((s *ℤ s) *ℤ (e *ℤ e -ℤ a *ℤ b)) (b +ℤ s *ℤ s) bs h1 in
      let h3 : (((e *ℤ e -ℤ a *ℤ b) *ℤ (b +ℤ s *ℤ s)) *ℤ (s *ℤ s)) ≤ℤ (((e *ℤ s -ℤ b *ℤ r) *ℤ (e *ℤ s -ℤ b *ℤ r)) *ℤ (s *ℤ s)) = le-mul ((e *ℤ e -ℤ a *ℤ b) *ℤ (b +ℤ s *ℤ s)) ((e *ℤ s -ℤ b *ℤ r) *ℤ (e *ℤ s -ℤ b *ℤ r)) (s *ℤ s) ss causal in
      let k1 : ((s *ℤ s) *ℤ (e *ℤ e -ℤ a *ℤ b)) *ℤ (b +ℤ s *ℤ s) ≡ ((e *ℤ e -ℤ a *ℤ b) *ℤ (b +ℤ s *ℤ s)) *ℤ (s *ℤ s) = ring ((s *ℤ s) ∷ (e *ℤ e -ℤ a *ℤ b) ∷ (b +ℤ s *ℤ s) ∷ []) ((v 0 ⊗ v 1) ⊗ v 2) ((v 1 ⊗ v 2) ⊗ v 0) tt in
      let k2 : ((e *ℤ s +ℤ b *ℤ r) *ℤ (e *ℤ s -ℤ b *ℤ r)) *ℤ (b +ℤ s *ℤ s) ≡ ((e *ℤ s +ℤ b *ℤ r) *ℤ (b +ℤ s *ℤ s)) *ℤ (e *ℤ s -ℤ b *ℤ r) = ring ((e *ℤ s +ℤ b *ℤ r) ∷ (e *ℤ s -ℤ b *ℤ r) ∷ (b +ℤ s *ℤ s) ∷ []) ((v 0 ⊗ v 1) ⊗ v 2) ((v 0 ⊗ v 2) ⊗ v 1) tt in
      let k3 : ((e *ℤ s -ℤ b *ℤ r) *ℤ (e *ℤ s -ℤ b *ℤ r)) *ℤ (s *ℤ s) ≡ ((e *ℤ s -ℤ b *ℤ r) *ℤ (s *ℤ s)) *ℤ (e *ℤ s -ℤ b *ℤ r) = ring ((e *ℤ s -ℤ b *ℤ r) ∷ (s *ℤ s) ∷ []) ((v 0 ⊗ v 0) ⊗ v 1) ((v 0 ⊗ v 1) ⊗ v 0) tt in
      let h4 : ((e *ℤ s +ℤ b *ℤ r) *ℤ (b +ℤ s *ℤ s)) ≤ℤ ((e *ℤ s -ℤ b *ℤ r) *ℤ (s *ℤ s)) = cancel_le ((e *ℤ s +ℤ b *ℤ r) *ℤ (b +ℤ s *ℤ s)) ((e *ℤ s -ℤ b *ℤ r) *ℤ (s *ℤ s)) (e *ℤ s -ℤ b *ℤ r) g0 (omega (arith, lin)) in
      -- but E s + B' r is at least g, and B above s^2
      let h5 : ((e *ℤ s -ℤ b *ℤ r) *ℤ (b +ℤ s *ℤ s)) ≤ℤ ((e *ℤ s +ℤ b *ℤ r) *ℤ (b +ℤ s *ℤ s)) = le-mul (e *ℤ s -ℤ b *ℤ r) (e *ℤ s +ℤ b *ℤ r) (b +ℤ s *ℤ s) bs (omega (arith, lin)) in
      let k4 : (e *ℤ s -ℤ b *ℤ r) *ℤ (b +ℤ s *ℤ s) ≡ (e *ℤ s -ℤ b *ℤ r) *ℤ b +ℤ (e *ℤ s -ℤ b *ℤ r) *ℤ (s *ℤ s) = ring ((e *ℤ s -ℤ b *ℤ r) ∷ b ∷ (s *ℤ s) ∷ []) (v 0 ⊗ (v 1 ⊕ v 2)) (v 0 ⊗ v 1 ⊕ v 0 ⊗ v 2) tt in
      let h6 : pos 0 <ℤ ((e *ℤ s -ℤ b *ℤ r) *ℤ b) = positive-mul (e *ℤ s -ℤ b *ℤ r) b g0 b0 in
      omega (arith, lin)

  pub forward : (e *ℤ s) ≤ℤ (b *ℤ r)
  forward = by_lt_z (b *ℤ r) (e *ℤ s) (λ h. absurd (against (omega (arith, lin)))) (λ h. h)

-- ---- identities in numbers: x and y are dot products of w with p and q, w its square
causal_is : (a b e r s : ℤ) → (e *ℤ s -ℤ b *ℤ r) *ℤ (e *ℤ s -ℤ b *ℤ r) -ℤ (e *ℤ e -ℤ a *ℤ b) *ℤ (b +ℤ s *ℤ s) ≡ ((a +ℤ r *ℤ r) *ℤ (b +ℤ s *ℤ s) -ℤ (e +ℤ r *ℤ s) *ℤ (e +ℤ r *ℤ s)) *ℤ b
causal_is a b e r s =
    ring (a ∷ b ∷ e ∷ r ∷ s ∷ []) ((v 2 ⊗ v 4 ⊖ v 1 ⊗ v 3) ⊗ (v 2 ⊗ v 4 ⊖ v 1 ⊗ v 3) ⊖ (v 2 ⊗ v 2 ⊖ v 0 ⊗ v 1) ⊗ (v 1 ⊕ v 4 ⊗ v 4)) (((v 0 ⊕ v 3 ⊗ v 3) ⊗ (v 1 ⊕ v 4 ⊗ v 4) ⊖ (v 2 ⊕ v 3 ⊗ v 4) ⊗ (v 2 ⊕ v 3 ⊗ v 4)) ⊗ v 1) tt

first_left : (a b e r s : ℤ) → (b *ℤ r -ℤ e *ℤ s) *ℤ (b *ℤ r -ℤ e *ℤ s) -ℤ (((b *ℤ b) *ℤ (a +ℤ r *ℤ r) -ℤ ((b *ℤ e) *ℤ (e +ℤ r *ℤ s) +ℤ (b *ℤ e) *ℤ (e +ℤ r *ℤ s))) +ℤ (e *ℤ e) *ℤ (b +ℤ s *ℤ s)) ≡ b *ℤ (e *ℤ e -ℤ a *ℤ b)
first_left a b e r s =
    ring (a ∷ b ∷ e ∷ r ∷ s ∷ []) ((v 1 ⊗ v 3 ⊖ v 2 ⊗ v 4) ⊗ (v 1 ⊗ v 3 ⊖ v 2 ⊗ v 4) ⊖ (((v 1 ⊗ v 1) ⊗ (v 0 ⊕ v 3 ⊗ v 3) ⊖ ((v 1 ⊗ v 2) ⊗ (v 2 ⊕ v 3 ⊗ v 4) ⊕ (v 1 ⊗ v 2) ⊗ (v 2 ⊕ v 3 ⊗ v 4))) ⊕ (v 2 ⊗ v 2) ⊗ (v 1 ⊕ v 4 ⊗ v 4))) (v 1 ⊗ (v 2 ⊗ v 2 ⊖ v 0 ⊗ v 1)) tt

third_left : (b y s w : ℤ) → (y *ℤ s) *ℤ (y *ℤ s) -ℤ (((b *ℤ b) *ℤ w -ℤ ((b *ℤ y) *ℤ y +ℤ (b *ℤ y) *ℤ y)) +ℤ (y *ℤ y) *ℤ (b +ℤ s *ℤ s)) ≡ b *ℤ (y *ℤ y -ℤ w *ℤ b)
third_left b y s w =
    ring (b ∷ y ∷ s ∷ w ∷ []) ((v 1 ⊗ v 2) ⊗ (v 1 ⊗ v 2) ⊖ (((v 0 ⊗ v 0) ⊗ v 3 ⊖ ((v 0 ⊗ v 1) ⊗ v 1 ⊕ (v 0 ⊗ v 1) ⊗ v 1)) ⊕ (v 1 ⊗ v 1) ⊗ (v 0 ⊕ v 2 ⊗ v 2))) (v 0 ⊗ (v 1 ⊗ v 1 ⊖ v 3 ⊗ v 0)) tt

mixed_left : (b e r s x y : ℤ) → ((((b *ℤ b) *ℤ x -ℤ (b *ℤ y) *ℤ (e +ℤ r *ℤ s)) -ℤ (e *ℤ b) *ℤ y) +ℤ (e *ℤ y) *ℤ (b +ℤ s *ℤ s)) +ℤ (b *ℤ r -ℤ e *ℤ s) *ℤ (y *ℤ s) ≡ (x *ℤ b -ℤ y *ℤ e) *ℤ b
mixed_left b e r s x y =
    ring (b ∷ e ∷ r ∷ s ∷ x ∷ y ∷ []) (((((v 0 ⊗ v 0) ⊗ v 4 ⊖ (v 0 ⊗ v 5) ⊗ (v 1 ⊕ v 2 ⊗ v 3)) ⊖ (v 1 ⊗ v 0) ⊗ v 5) ⊕ (v 1 ⊗ v 5) ⊗ (v 0 ⊕ v 3 ⊗ v 3)) ⊕ (v 0 ⊗ v 2 ⊖ v 1 ⊗ v 3) ⊗ (v 5 ⊗ v 3)) ((v 4 ⊗ v 0 ⊖ v 5 ⊗ v 1) ⊗ v 0) tt

-- ---- squares and dot products of what is left: b p - e q
left_square : (b e : ℤ) (p q : Triple) → square (combined b p (neg_ℤ e) q) ≡ ((b *ℤ b) *ℤ square p -ℤ ((b *ℤ e) *ℤ dot p q +ℤ (b *ℤ e) *ℤ dot p q)) +ℤ (e *ℤ e) *ℤ square q
left_square b e p q =
    distance b e p q ∙ ap (λ (d : ℤ). (b *ℤ b) *ℤ square p -ℤ (d +ℤ d) +ℤ (e *ℤ e) *ℤ square q) (mul_comm (dot p q) (b *ℤ e))

left_dot : (b e y : ℤ) (p q w : Triple) → dot (combined b p (neg_ℤ e) q) (combined b w (neg_ℤ y) q) ≡ (((b *ℤ b) *ℤ dot w p -ℤ (b *ℤ y) *ℤ dot p q) -ℤ (e *ℤ b) *ℤ dot w q) +ℤ (e *ℤ y) *ℤ square q
left_dot b e y p q w =
    let P = triple 0 in
    let Q = triple 3 in
    let W = triple 6 in
    let B = v 9 in
    let E = v 10 in
    let Y = v 11 in
    ring (p.x ∷ p.y ∷ p.z ∷ q.x ∷ q.y ∷ q.z ∷ w.x ∷ w.y ∷ w.z ∷ b ∷ e ∷ y ∷ []) (inner (together B P (minus E) Q) (together B W (minus Y) Q)) ((((B ⊗ B) ⊗ inner W P ⊖ (B ⊗ Y) ⊗ inner P Q) ⊖ (E ⊗ B) ⊗ inner W Q) ⊕ (E ⊗ Y) ⊗ inner Q Q) tt

-- ---- the step from one ray
module _ (p q w : Triple) (a b e r s : ℤ) (ea : square p ≡ a +ℤ r *ℤ r) (eb : square q ≡ b +ℤ s *ℤ s) (ed : dot p q ≡ e +ℤ r *ℤ s) (b0 : pos 0 <ℤ b) (e0 : pos 0 ≤ℤ e) (s0 : pos 0 ≤ℤ s) (inside : (a *ℤ b) ≤ℤ (e *ℤ e)) (ahead : (e *ℤ s) ≤ℤ (b *ℤ r)) (y0 : pos 0 ≤ℤ dot w q) (close : (square w *ℤ b) ≤ℤ (dot w q *ℤ dot w q)) where
  first_small : square (combined b p (neg_ℤ e) q) ≤ℤ ((b *ℤ r -ℤ e *ℤ s) *ℤ (b *ℤ r -ℤ e *ℤ s))
  first_small =
      let l : square (combined b p (neg_ℤ e) q) ≡ ((b *ℤ b) *ℤ (a +ℤ r *ℤ r) -ℤ ((b *ℤ e) *ℤ (e +ℤ r *ℤ s) +ℤ (b *ℤ e) *ℤ (e +ℤ r *ℤ s))) +ℤ (e *ℤ e) *ℤ (b +ℤ s *ℤ s) = left_square b e p q ∙ (ap (λ z. ((b *ℤ b) *ℤ z -ℤ ((b *ℤ e) *ℤ dot p q +ℤ (b *ℤ e) *ℤ dot p q)) +ℤ (e *ℤ e) *ℤ square q) ea ∙ (ap (λ z. ((b *ℤ b) *ℤ (a +ℤ r *ℤ r) -ℤ ((b *ℤ e) *ℤ z +ℤ (b *ℤ e) *ℤ z)) +ℤ (e *ℤ e) *ℤ square q) ed ∙ ap (λ z. ((b *ℤ b) *ℤ (a +ℤ r *ℤ r) -ℤ ((b *ℤ e) *ℤ (e +ℤ r *ℤ s) +ℤ (b *ℤ e) *ℤ (e +ℤ r *ℤ s))) +ℤ (e *ℤ e) *ℤ z) eb)) in
      let f = first_left a b e r s in
      let n : pos 0 ≤ℤ (b *ℤ (e *ℤ e -ℤ a *ℤ b)) = nonneg-mul b (e *ℤ e -ℤ a *ℤ b) (omega (arith, lin)) (omega (arith, lin)) in
      omega (arith, lin)

  third_small : square (combined b w (neg_ℤ (dot w q)) q) ≤ℤ ((dot w q *ℤ s) *ℤ (dot w q *ℤ s))
  third_small =
      let l : square (combined b w (neg_ℤ (dot w q)) q) ≡ ((b *ℤ b) *ℤ square w -ℤ ((b *ℤ dot w q) *ℤ dot w q +ℤ (b *ℤ dot w q) *ℤ dot w q)) +ℤ (dot w q *ℤ dot w q) *ℤ (b +ℤ s *ℤ s) = left_square b (dot w q) w q ∙ ap (λ z. ((b *ℤ b) *ℤ square w -ℤ ((b *ℤ dot w q) *ℤ dot w q +ℤ (b *ℤ dot w q) *ℤ dot w q)) +ℤ (dot w q *ℤ dot w q) *ℤ z) eb in
      let f = third_left b (dot w q) s (square w) in
      let n : pos 0 ≤ℤ (b *ℤ (dot w q *ℤ dot w q -ℤ square w *ℤ b)) = nonneg-mul b (dot w q *ℤ dot w q -ℤ square w *ℤ b) (omega (arith, lin)) (omega (arith, lin)) in
      omega (arith, lin)

  -- y E <= x B'
  pub dots : (dot w q *ℤ e) ≤ℤ (dot w p *ℤ b)
  dots =
      let u = combined b p (neg_ℤ e) q in
      let z = combined b w (neg_ℤ (dot w q)) q in
      let n0 : pos 0 ≤ℤ (b *ℤ r -ℤ e *ℤ s) = omega (arith, lin) in
      let ys : pos 0 ≤ℤ (dot w q *ℤ s) = nonneg-mul (dot w q) s y0 s0 in
      let both : (square u *ℤ square z) ≤ℤ (((b *ℤ r -ℤ e *ℤ s) *ℤ (b *ℤ r -ℤ e *ℤ s)) *ℤ ((dot w q *ℤ s) *ℤ (dot w q *ℤ s))) = le-products (square u) ((b *ℤ r -ℤ e *ℤ s) *ℤ (b *ℤ r -ℤ e *ℤ s)) (square z) ((dot w q *ℤ s) *ℤ (dot w q *ℤ s)) (nonneg-square (b *ℤ r -ℤ e *ℤ s)) (square_low z) first_small third_small in
      let c : (dot u z *ℤ dot u z) ≤ℤ (square u *ℤ square z) = cauchy u z in
      let k : ((b *ℤ r -ℤ e *ℤ s) *ℤ (b *ℤ r -ℤ e *ℤ s)) *ℤ ((dot w q *ℤ s) *ℤ (dot w q *ℤ s)) ≡ ((b *ℤ r -ℤ e *ℤ s) *ℤ (dot w q *ℤ s)) *ℤ ((b *ℤ r -ℤ e *ℤ s) *ℤ (dot w q *ℤ s)) = ring ((b *ℤ r -ℤ e *ℤ s) ∷ (dot w q *ℤ s) ∷ []) ((v 0 ⊗ v 0) ⊗ (v 1 ⊗ v 1)) ((v 0 ⊗ v 1) ⊗ (v 0 ⊗ v 1)) tt in
      let low : neg_ℤ ((b *ℤ r -ℤ e *ℤ s) *ℤ (dot w q *ℤ s)) ≤ℤ dot u z = low_from_squares (dot u z) ((b *ℤ r -ℤ e *ℤ s) *ℤ (dot w q *ℤ s)) (nonneg-mul (b *ℤ r -ℤ e *ℤ s) (dot w q *ℤ s) n0 ys) (omega (arith, lin)) in
      let d : dot u z ≡ (((b *ℤ b) *ℤ dot w p -ℤ (b *ℤ dot w q) *ℤ (e +ℤ r *ℤ s)) -ℤ (e *ℤ b) *ℤ dot w q) +ℤ (e *ℤ dot w q) *ℤ (b +ℤ s *ℤ s) = left_dot b e (dot w q) p q w ∙ (ap (λ g. (((b *ℤ b) *ℤ dot w p -ℤ (b *ℤ dot w q) *ℤ g) -ℤ (e *ℤ b) *ℤ dot w q) +ℤ (e *ℤ dot w q) *ℤ square q) ed ∙ ap (λ g. (((b *ℤ b) *ℤ dot w p -ℤ (b *ℤ dot w q) *ℤ (e +ℤ r *ℤ s)) -ℤ (e *ℤ b) *ℤ dot w q) +ℤ (e *ℤ dot w q) *ℤ g) eb) in
      let m = mixed_left b e r s (dot w p) (dot w q) in
      let last : pos 0 ≤ℤ (dot w p *ℤ b -ℤ dot w q *ℤ e) = cancel_low (dot w p *ℤ b -ℤ dot w q *ℤ e) b b0 (omega (arith, lin)) in
      omega (arith, lin)

  pub ahead_of : pos 0 ≤ℤ dot w p
  ahead_of =
      let d = dots in
      let n : pos 0 ≤ℤ (dot w q *ℤ e) = nonneg-mul (dot w q) e y0 e0 in
      cancel_low (dot w p) b b0 (omega (arith, lin))

  pub close_to : pos 0 ≤ℤ a → (square w *ℤ a) ≤ℤ (dot w p *ℤ dot w p)
  close_to a0 =
      let d = dots in
      let n : pos 0 ≤ℤ (dot w q *ℤ e) = nonneg-mul (dot w q) e y0 e0 in
      let sq : ((dot w q *ℤ e) *ℤ (dot w q *ℤ e)) ≤ℤ ((dot w p *ℤ b) *ℤ (dot w p *ℤ b)) = le-products (dot w q *ℤ e) (dot w p *ℤ b) (dot w q *ℤ e) (dot w p *ℤ b) (omega (arith, lin)) n d d in
      let ab : pos 0 ≤ℤ (a *ℤ b) = nonneg-mul a b a0 (omega (arith, lin)) in
      let lo : ((square w *ℤ b) *ℤ (a *ℤ b)) ≤ℤ ((dot w q *ℤ dot w q) *ℤ (e *ℤ e)) = le-products (square w *ℤ b) (dot w q *ℤ dot w q) (a *ℤ b) (e *ℤ e) (nonneg-square (dot w q)) ab close inside in
      let k1 : (square w *ℤ b) *ℤ (a *ℤ b) ≡ (square w *ℤ a) *ℤ (b *ℤ b) = ring (square w ∷ a ∷ b ∷ []) ((v 0 ⊗ v 2) ⊗ (v 1 ⊗ v 2)) ((v 0 ⊗ v 1) ⊗ (v 2 ⊗ v 2)) tt in
      let k2 : (dot w q *ℤ dot w q) *ℤ (e *ℤ e) ≡ (dot w q *ℤ e) *ℤ (dot w q *ℤ e) = ring (dot w q ∷ e ∷ []) ((v 0 ⊗ v 0) ⊗ (v 1 ⊗ v 1)) ((v 0 ⊗ v 1) ⊗ (v 0 ⊗ v 1)) tt in
      let k3 : (dot w p *ℤ b) *ℤ (dot w p *ℤ b) ≡ (dot w p *ℤ dot w p) *ℤ (b *ℤ b) = ring (dot w p ∷ b ∷ []) ((v 0 ⊗ v 1) ⊗ (v 0 ⊗ v 1)) ((v 0 ⊗ v 0) ⊗ (v 1 ⊗ v 1)) tt in
      cancel_le (square w *ℤ a) (dot w p *ℤ dot w p) (b *ℤ b) (positive-mul b b b0 b0) (omega (arith, lin))

-- ---- where the function is at least 0
taken_out : (a c : ℤ) → a ≡ (a -ℤ c) +ℤ c
taken_out a c = omega (arith, lin)

put_back : (d c : ℤ) → d ≡ (d -ℤ c) +ℤ c
put_back d c = omega (arith, lin)

pub covering : (p q : Triple) (r s : ℤ) → IsSphere p r → IsSphere q s → IsNoSmaller p r q s → pos 0 ≤ℤ (signed_sq (dot p q -ℤ r *ℤ s) -ℤ (square p -ℤ r *ℤ r) *ℤ (square q -ℤ s *ℤ s)) → Covers p r q s
covering p q r s front back larger h w m =
    let gp : pos 0 <ℤ (square p -ℤ r *ℤ r) = omega (arith, lin, front.outside) in
    let gq : pos 0 <ℤ (square q -ℤ s *ℤ s) = omega (arith, lin, back.outside) in
    let g = root_low (dot p q -ℤ r *ℤ s) ((square p -ℤ r *ℤ r) *ℤ (square q -ℤ s *ℤ s)) (positive-mul (square p -ℤ r *ℤ r) (square q -ℤ s *ℤ s) gp gq) (omega (arith, lin)) in
    let f = towards w q s back m in
    let ea = taken_out (square p) (r *ℤ r) in
    let eb = taken_out (square q) (s *ℤ s) in
    let ed = put_back (dot p q) (r *ℤ s) in
    let l1 : (s *ℤ s) *ℤ (square p -ℤ r *ℤ r) ≡ (s *ℤ s) *ℤ square p -ℤ (r *ℤ s) *ℤ (r *ℤ s) = ring (square p ∷ r ∷ s ∷ []) ((v 2 ⊗ v 2) ⊗ (v 0 ⊖ v 1 ⊗ v 1)) ((v 2 ⊗ v 2) ⊗ v 0 ⊖ (v 1 ⊗ v 2) ⊗ (v 1 ⊗ v 2)) tt in
    let l2 : (r *ℤ r) *ℤ (square q -ℤ s *ℤ s) ≡ (r *ℤ r) *ℤ square q -ℤ (r *ℤ s) *ℤ (r *ℤ s) = ring (square q ∷ r ∷ s ∷ []) ((v 1 ⊗ v 1) ⊗ (v 0 ⊖ v 2 ⊗ v 2)) ((v 1 ⊗ v 1) ⊗ v 0 ⊖ (v 1 ⊗ v 2) ⊗ (v 1 ⊗ v 2)) tt in
    let lg : ((s *ℤ s) *ℤ (square p -ℤ r *ℤ r)) ≤ℤ ((r *ℤ r) *ℤ (square q -ℤ s *ℤ s)) = let k : ((s *ℤ s) *ℤ square p) ≤ℤ ((r *ℤ r) *ℤ square q) = larger in omega (arith, lin) in
    let c = cauchy p q in
    let ci = causal_is (square p -ℤ r *ℤ r) (square q -ℤ s *ℤ s) (dot p q -ℤ r *ℤ s) r s in
    let cg : (((square p -ℤ r *ℤ r) +ℤ r *ℤ r) *ℤ ((square q -ℤ s *ℤ s) +ℤ s *ℤ s) -ℤ ((dot p q -ℤ r *ℤ s) +ℤ r *ℤ s) *ℤ ((dot p q -ℤ r *ℤ s) +ℤ r *ℤ s)) ≡ square p *ℤ square q -ℤ dot p q *ℤ dot p q = ring (square p ∷ square q ∷ dot p q ∷ r ∷ s ∷ []) (((v 0 ⊖ v 3 ⊗ v 3) ⊕ v 3 ⊗ v 3) ⊗ ((v 1 ⊖ v 4 ⊗ v 4) ⊕ v 4 ⊗ v 4) ⊖ ((v 2 ⊖ v 3 ⊗ v 4) ⊕ v 3 ⊗ v 4) ⊗ ((v 2 ⊖ v 3 ⊗ v 4) ⊕ v 3 ⊗ v 4)) (v 0 ⊗ v 1 ⊖ v 2 ⊗ v 2) tt in
    let cn : pos 0 ≤ℤ ((((square p -ℤ r *ℤ r) +ℤ r *ℤ r) *ℤ ((square q -ℤ s *ℤ s) +ℤ s *ℤ s) -ℤ ((dot p q -ℤ r *ℤ s) +ℤ r *ℤ s) *ℤ ((dot p q -ℤ r *ℤ s) +ℤ r *ℤ s)) *ℤ (square q -ℤ s *ℤ s)) = nonneg-mul (((square p -ℤ r *ℤ r) +ℤ r *ℤ r) *ℤ ((square q -ℤ s *ℤ s) +ℤ s *ℤ s) -ℤ ((dot p q -ℤ r *ℤ s) +ℤ r *ℤ s) *ℤ ((dot p q -ℤ r *ℤ s) +ℤ r *ℤ s)) (square q -ℤ s *ℤ s) (omega (arith, lin)) (omega (arith, lin)) in
    let fw = forward (square p -ℤ r *ℤ r) (square q -ℤ s *ℤ s) (dot p q -ℤ r *ℤ s) r s gq g.0 front.radius back.radius g.1 lg (omega (arith, lin)) in
    let x0 = ahead_of p q w (square p -ℤ r *ℤ r) (square q -ℤ s *ℤ s) (dot p q -ℤ r *ℤ s) r s ea eb ed gq g.0 back.radius g.1 fw f.ahead f.close in
    let cl = close_to p q w (square p -ℤ r *ℤ r) (square q -ℤ s *ℤ s) (dot p q -ℤ r *ℤ s) r s ea eb ed gq g.0 back.radius g.1 fw f.ahead f.close (omega (arith, lin)) in
    meets_close w p r f.direction x0 cl
