-- Where two places lie in one half plane through the z axis, or in opposite ones.
use Rattle.std.proofs.Common.{◌≡◌, arith, sym, ap, ◌∙◌, [], ◌∷◌, ℤ, pos, ◌+ℤ◌, ◌-ℤ◌, ◌*ℤ◌, neg_ℤ, ◌≤ℤ◌, ◌<ℤ◌}
use Rattle.std.proofs.lemmas.Int.{by_lt_z}
use Rattle.spec_numbers.proofs.Ring.{v, k as lit, ◌⊕◌, ◌⊖◌, ◌⊗◌, minus, ring}
use Rattle.spec_numbers.proofs.Order.{lin, nonneg-square}
use Rattle.spec_numbers.proofs.Whole.{nonneg-mul}
use Rattle.spec_meanings.specs.Space.{Triple, plane_dot, plane_cross, quarter_turned, IsOffAxis, AreInHalfPlane, AreInOppositeHalfPlanes}
use Rattle.spec_meanings.proofs.Cancel.{positive-mul, cancel_low, cancel_zero, cancel_below, square_none}

pub turned : (p q : Triple) → plane_cross p q ≡ plane_dot (quarter_turned p) q
turned p q = ring (p.x ∷ p.y ∷ q.x ∷ q.y ∷ []) (v 0 ⊗ v 3 ⊖ v 1 ⊗ v 2) (minus (v 1) ⊗ v 2 ⊕ v 0 ⊗ v 3) tt

-- (p.q) p = (p.p) q where the cross product is 0
aligned_x : (p q : Triple) → plane_cross p q ≡ pos 0 → plane_dot p q *ℤ p.x ≡ plane_dot p p *ℤ q.x
aligned_x p q e =
    let f : plane_dot p q *ℤ p.x ≡ plane_dot p p *ℤ q.x +ℤ p.y *ℤ plane_cross p q = ring (p.x ∷ p.y ∷ q.x ∷ q.y ∷ []) ((v 0 ⊗ v 2 ⊕ v 1 ⊗ v 3) ⊗ v 0) ((v 0 ⊗ v 0 ⊕ v 1 ⊗ v 1) ⊗ v 2 ⊕ v 1 ⊗ (v 0 ⊗ v 3 ⊖ v 1 ⊗ v 2)) tt in
    f ∙ (ap (λ z. plane_dot p p *ℤ q.x +ℤ p.y *ℤ z) e ∙ ring (plane_dot p p ∷ q.x ∷ p.y ∷ []) (v 0 ⊗ v 1 ⊕ v 2 ⊗ lit (pos 0)) (v 0 ⊗ v 1) tt)

aligned_y : (p q : Triple) → plane_cross p q ≡ pos 0 → plane_dot p q *ℤ p.y ≡ plane_dot p p *ℤ q.y
aligned_y p q e =
    let f : plane_dot p q *ℤ p.y ≡ plane_dot p p *ℤ q.y -ℤ p.x *ℤ plane_cross p q = ring (p.x ∷ p.y ∷ q.x ∷ q.y ∷ []) ((v 0 ⊗ v 2 ⊕ v 1 ⊗ v 3) ⊗ v 1) ((v 0 ⊗ v 0 ⊕ v 1 ⊗ v 1) ⊗ v 3 ⊖ v 0 ⊗ (v 0 ⊗ v 3 ⊖ v 1 ⊗ v 2)) tt in
    f ∙ (ap (λ z. plane_dot p p *ℤ q.y -ℤ p.x *ℤ z) e ∙ ring (plane_dot p p ∷ q.y ∷ p.x ∷ []) (v 0 ⊗ v 1 ⊖ v 2 ⊗ lit (pos 0)) (v 0 ⊗ v 1) tt)

-- a place on the axis
on_axis : (p : Triple) → plane_dot p p ≤ℤ pos 0 → (p.x ≡ pos 0) × (p.y ≡ pos 0)
on_axis p h =
    let a : pos 0 ≤ℤ (p.x *ℤ p.x) = nonneg-square p.x in
    let b : pos 0 ≤ℤ (p.y *ℤ p.y) = nonneg-square p.y in
    (square_none p.x (omega (arith, lin)), square_none p.y (omega (arith, lin)))

axis_meets : (p q : Triple) → (p.x ≡ pos 0) × (p.y ≡ pos 0) → AreInHalfPlane p q
axis_meets p q e =
    record { l = pos 1; m = pos 0; l_low = omega (arith, lin); m_low = omega (arith, lin); not_both_0 = omega (arith, lin); same_x = ap (λ z. pos 1 *ℤ z) e.0 ∙ ring (q.x ∷ []) (lit (pos 0)) (lit (pos 0) ⊗ v 0) tt; same_y = ap (λ z. pos 1 *ℤ z) e.1 ∙ ring (q.y ∷ []) (lit (pos 0)) (lit (pos 0) ⊗ v 0) tt }

pub in_half_plane : (p q : Triple) → plane_cross p q ≡ pos 0 → pos 0 ≤ℤ plane_dot p q → AreInHalfPlane p q
in_half_plane p q e h =
    by_lt_z (pos 0) (plane_dot p p) (λ off. record { l = plane_dot p q; m = plane_dot p p; l_low = h; m_low = omega (arith, lin); not_both_0 = omega (arith, lin); same_x = aligned_x p q e; same_y = aligned_y p q e }) (λ on. axis_meets p q (on_axis p on))

-- a cross product of places that agree, up to factors, is 0
module _ (p q : Triple) (l m : ℤ) (ex : l *ℤ p.x ≡ m *ℤ q.x) (ey : l *ℤ p.y ≡ m *ℤ q.y) where
  cross_by_first : plane_cross p q *ℤ l ≡ pos 0
  cross_by_first =
      ring (p.x ∷ p.y ∷ q.x ∷ q.y ∷ l ∷ []) ((v 0 ⊗ v 3 ⊖ v 1 ⊗ v 2) ⊗ v 4) ((v 4 ⊗ v 0) ⊗ v 3 ⊖ (v 4 ⊗ v 1) ⊗ v 2) tt ∙ (ap (λ z. z *ℤ q.y -ℤ (l *ℤ p.y) *ℤ q.x) ex ∙ (ap (λ z. (m *ℤ q.x) *ℤ q.y -ℤ z *ℤ q.x) ey ∙ ring (q.x ∷ q.y ∷ m ∷ []) ((v 2 ⊗ v 0) ⊗ v 1 ⊖ (v 2 ⊗ v 1) ⊗ v 0) (lit (pos 0)) tt))

  cross_by_second : plane_cross p q *ℤ m ≡ pos 0
  cross_by_second =
      ring (p.x ∷ p.y ∷ q.x ∷ q.y ∷ m ∷ []) ((v 0 ⊗ v 3 ⊖ v 1 ⊗ v 2) ⊗ v 4) (v 0 ⊗ (v 4 ⊗ v 3) ⊖ v 1 ⊗ (v 4 ⊗ v 2)) tt ∙ (ap (λ z. p.x *ℤ (m *ℤ q.y) -ℤ p.y *ℤ z) (sym ex) ∙ (ap (λ z. p.x *ℤ z -ℤ p.y *ℤ (l *ℤ p.x)) (sym ey) ∙ ring (p.x ∷ p.y ∷ l ∷ []) (v 0 ⊗ (v 2 ⊗ v 1) ⊖ v 1 ⊗ (v 2 ⊗ v 0)) (lit (pos 0)) tt))

  dot_by_first : plane_dot p q *ℤ l ≡ m *ℤ plane_dot q q
  dot_by_first =
      ring (p.x ∷ p.y ∷ q.x ∷ q.y ∷ l ∷ []) ((v 0 ⊗ v 2 ⊕ v 1 ⊗ v 3) ⊗ v 4) ((v 4 ⊗ v 0) ⊗ v 2 ⊕ (v 4 ⊗ v 1) ⊗ v 3) tt ∙ (ap (λ z. z *ℤ q.x +ℤ (l *ℤ p.y) *ℤ q.y) ex ∙ (ap (λ z. (m *ℤ q.x) *ℤ q.x +ℤ z *ℤ q.y) ey ∙ ring (q.x ∷ q.y ∷ m ∷ []) ((v 2 ⊗ v 0) ⊗ v 0 ⊕ (v 2 ⊗ v 1) ⊗ v 1) (v 2 ⊗ (v 0 ⊗ v 0 ⊕ v 1 ⊗ v 1)) tt))

  dot_by_second : plane_dot p q *ℤ m ≡ l *ℤ plane_dot p p
  dot_by_second =
      ring (p.x ∷ p.y ∷ q.x ∷ q.y ∷ m ∷ []) ((v 0 ⊗ v 2 ⊕ v 1 ⊗ v 3) ⊗ v 4) (v 0 ⊗ (v 4 ⊗ v 2) ⊕ v 1 ⊗ (v 4 ⊗ v 3)) tt ∙ (ap (λ z. p.x *ℤ z +ℤ p.y *ℤ (m *ℤ q.y)) (sym ex) ∙ (ap (λ z. p.x *ℤ (l *ℤ p.x) +ℤ p.y *ℤ z) (sym ey) ∙ ring (p.x ∷ p.y ∷ l ∷ []) (v 0 ⊗ (v 2 ⊗ v 0) ⊕ v 1 ⊗ (v 2 ⊗ v 1)) (v 2 ⊗ (v 0 ⊗ v 0 ⊕ v 1 ⊗ v 1)) tt))

plane_square : (p : Triple) → pos 0 ≤ℤ plane_dot p p
plane_square p = let a : pos 0 ≤ℤ (p.x *ℤ p.x) = nonneg-square p.x in let b : pos 0 ≤ℤ (p.y *ℤ p.y) = nonneg-square p.y in omega (arith, lin)

pub half_plane_means : (p q : Triple) → AreInHalfPlane p q → (plane_cross p q ≡ pos 0) × (pos 0 ≤ℤ plane_dot p q)
half_plane_means p q h = by_lt_z (pos 0) h.l (λ l. first l) (λ l. second (omega (arith, lin, h.not_both_0)))
  where
    first : pos 0 <ℤ h.l → (plane_cross p q ≡ pos 0) × (pos 0 ≤ℤ plane_dot p q)
    first l =
        let e = dot_by_first p q h.l h.m h.same_x h.same_y in
        let n : pos 0 ≤ℤ (h.m *ℤ plane_dot q q) = nonneg-mul h.m (plane_dot q q) h.m_low (plane_square q) in
        (cancel_zero (plane_cross p q) h.l l (cross_by_first p q h.l h.m h.same_x h.same_y), cancel_low (plane_dot p q) h.l l (omega (arith, lin)))

    second : pos 0 <ℤ h.m → (plane_cross p q ≡ pos 0) × (pos 0 ≤ℤ plane_dot p q)
    second m =
        let e = dot_by_second p q h.l h.m h.same_x h.same_y in
        let n : pos 0 ≤ℤ (h.l *ℤ plane_dot p p) = nonneg-mul h.l (plane_dot p p) h.l_low (plane_square p) in
        (cancel_zero (plane_cross p q) h.m m (cross_by_second p q h.l h.m h.same_x h.same_y), cancel_low (plane_dot p q) h.m m (omega (arith, lin)))

-- ---- opposite half planes
turned_round : (c z w : ℤ) (a b : ℤ) → c *ℤ z ≡ a *ℤ b → neg_ℤ c *ℤ z ≡ neg_ℤ (a *ℤ b)
turned_round c z w a b e = ring (c ∷ z ∷ []) (minus (v 0) ⊗ v 1) (minus (v 0 ⊗ v 1)) tt ∙ ap neg_ℤ e

off_by_dot : (p q : Triple) → plane_dot p q <ℤ pos 0 → IsOffAxis p
off_by_dot p q h = by_lt_z (pos 0) (plane_dot p p) (λ off. off) (λ on. absurd (by (on_axis p on)))
  where
    by : (p.x ≡ pos 0) × (p.y ≡ pos 0) → ⊥
    by e =
        let z : plane_dot p q ≡ pos 0 = ap (λ x. x *ℤ q.x +ℤ p.y *ℤ q.y) e.0 ∙ (ap (λ y. pos 0 *ℤ q.x +ℤ y *ℤ q.y) e.1 ∙ ring (q.x ∷ q.y ∷ []) (lit (pos 0) ⊗ v 0 ⊕ lit (pos 0) ⊗ v 1) (lit (pos 0)) tt) in
        omega (arith, lin)

pub in_opposite : (p q : Triple) → plane_cross p q ≡ pos 0 → plane_dot p q <ℤ pos 0 → AreInOppositeHalfPlanes p q
in_opposite p q e h =
    record { off_axis = off_by_dot p q h; l = neg_ℤ (plane_dot p q); m = plane_dot p p; l_positive = omega (arith, lin); m_positive = off_by_dot p q h; opposite_x = turned_round (plane_dot p q) p.x q.x (plane_dot p p) q.x (aligned_x p q e); opposite_y = turned_round (plane_dot p q) p.y q.y (plane_dot p p) q.y (aligned_y p q e) }

pub opposite_means : (p q : Triple) → AreInOppositeHalfPlanes p q → (plane_cross p q ≡ pos 0) × (plane_dot p q <ℤ pos 0)
opposite_means p q h = (cancel_zero (plane_cross p q) h.m h.m_positive cross, cancel_below (plane_dot p q) h.m h.m_positive dot)
  where
    turn : (l m a b : ℤ) → l *ℤ a ≡ neg_ℤ (m *ℤ b) → neg_ℤ l *ℤ a ≡ m *ℤ b
    turn l m a b e = ring (l ∷ a ∷ []) (minus (v 0) ⊗ v 1) (minus (v 0 ⊗ v 1)) tt ∙ (ap neg_ℤ e ∙ ring (m ∷ b ∷ []) (minus (minus (v 0 ⊗ v 1))) (v 0 ⊗ v 1) tt)

    cross : plane_cross p q *ℤ h.m ≡ pos 0
    cross = cross_by_second p q (neg_ℤ h.l) h.m (turn h.l h.m p.x q.x h.opposite_x) (turn h.l h.m p.y q.y h.opposite_y)

    dot : (plane_dot p q *ℤ h.m) <ℤ pos 0
    dot =
        let e = dot_by_second p q (neg_ℤ h.l) h.m (turn h.l h.m p.x q.x h.opposite_x) (turn h.l h.m p.y q.y h.opposite_y) in
        let n : pos 0 <ℤ (h.l *ℤ plane_dot p p) = positive-mul h.l (plane_dot p p) h.l_positive h.off_axis in
        let f : neg_ℤ h.l *ℤ plane_dot p p ≡ neg_ℤ (h.l *ℤ plane_dot p p) = ring (h.l ∷ plane_dot p p ∷ []) (minus (v 0) ⊗ v 1) (minus (v 0 ⊗ v 1)) tt in
        omega (arith, lin)
