-- Sums, products and polynomials have their derivatives, and there is one derivative.
use Rattle.std.proofs.Common.{◌≡◌, ℕ, zero, suc, ◌*◌, arith, refl, ap, sym, ◌∙◌, List, [], ◌∷◌, length, drop, ℤ, pos, negsuc, ◌+ℤ◌, ◌-ℤ◌, ◌*ℤ◌, unsigned_abs}
use Rattle.std.proofs.lemmas.Int.{unsigned_abs-mul}
use Rattle.spec_numbers.specs.Numbers.{power}
use Rattle.spec_numbers.proofs.Ring.{Poly, v, k as lit, ◌⊕◌, ◌⊖◌, ◌⊗◌, ring}
use Rattle.spec_numbers.proofs.Order.{lin}
use Rattle.spec_text.specs.declared.decimals.Decimal.{Decimal}
use Rattle.spec_chebyshev.specs.Polynomials.{cleared_t, cleared_u}
use Rattle.spec_chebyshev.proofs.Polynomials.{mixed}
use Rattle.spec_ephemeris.specs.Series.{Series, argument_at, scaled, cleared_sum, position}
use Rattle.spec_ephemeris.specs.Velocity.{cleared_slope, velocity}
use Rattle.spec_meanings.specs.Space.{Triple, dot, square, plane_cross}
use Rattle.spec_meanings.specs.Derivatives.{Changes, IsDerivative, IsVelocity, squares_product, half_change}
use Rattle.spec_meanings.proofs.Cancel.{cancel_zero}

-- ---- rules, at one time: a change a = f + h f' + h^2 r
pub constant : (c : ℤ) → IsDerivative (λ t. c) (λ t. pos 0)
constant c t h =
    record { rest = pos 0; is = ring (c ∷ h ∷ []) (v 0) ((v 0 ⊕ v 1 ⊗ lit (pos 0)) ⊕ (v 1 ⊗ v 1) ⊗ lit (pos 0)) tt }

pub itself : IsDerivative (λ t. t) (λ t. pos 1)
itself t h =
    record { rest = pos 0; is = ring (t ∷ h ∷ []) (v 0 ⊕ v 1) ((v 0 ⊕ v 1 ⊗ lit (pos 1)) ⊕ (v 1 ⊗ v 1) ⊗ lit (pos 0)) tt }

module _ (f f' g g' : ℤ → ℤ) (t h : ℤ) (p : Changes f f' t h) (q : Changes g g' t h) where
  pub sum_at : Changes (λ t. f t +ℤ g t) (λ t. f' t +ℤ g' t) t h
  sum_at = record { rest = p.rest +ℤ q.rest; is = ap (λ z. z +ℤ g (t +ℤ h)) p.is ∙ (ap (λ z. ((f t +ℤ h *ℤ f' t) +ℤ (h *ℤ h) *ℤ p.rest) +ℤ z) q.is ∙ ring (f t ∷ f' t ∷ p.rest ∷ g t ∷ g' t ∷ q.rest ∷ h ∷ []) (((v 0 ⊕ v 6 ⊗ v 1) ⊕ (v 6 ⊗ v 6) ⊗ v 2) ⊕ ((v 3 ⊕ v 6 ⊗ v 4) ⊕ (v 6 ⊗ v 6) ⊗ v 5)) (((v 0 ⊕ v 3) ⊕ v 6 ⊗ (v 1 ⊕ v 4)) ⊕ (v 6 ⊗ v 6) ⊗ (v 2 ⊕ v 5)) tt) }

  pub difference_at : Changes (λ t. f t -ℤ g t) (λ t. f' t -ℤ g' t) t h
  difference_at = record { rest = p.rest -ℤ q.rest; is = ap (λ z. z -ℤ g (t +ℤ h)) p.is ∙ (ap (λ z. ((f t +ℤ h *ℤ f' t) +ℤ (h *ℤ h) *ℤ p.rest) -ℤ z) q.is ∙ ring (f t ∷ f' t ∷ p.rest ∷ g t ∷ g' t ∷ q.rest ∷ h ∷ []) (((v 0 ⊕ v 6 ⊗ v 1) ⊕ (v 6 ⊗ v 6) ⊗ v 2) ⊖ ((v 3 ⊕ v 6 ⊗ v 4) ⊕ (v 6 ⊗ v 6) ⊗ v 5)) (((v 0 ⊖ v 3) ⊕ v 6 ⊗ (v 1 ⊖ v 4)) ⊕ (v 6 ⊗ v 6) ⊗ (v 2 ⊖ v 5)) tt) }

  pub product_at : Changes (λ t. f t *ℤ g t) (λ t. f' t *ℤ g t +ℤ f t *ℤ g' t) t h
  product_at = record { rest = ((f' t *ℤ g' t +ℤ f t *ℤ q.rest) +ℤ p.rest *ℤ g t) +ℤ h *ℤ ((f' t *ℤ q.rest +ℤ p.rest *ℤ g' t) +ℤ h *ℤ (p.rest *ℤ q.rest)); is = ap (λ z. z *ℤ g (t +ℤ h)) p.is ∙ (ap (λ z. ((f t +ℤ h *ℤ f' t) +ℤ (h *ℤ h) *ℤ p.rest) *ℤ z) q.is ∙ ring (f t ∷ f' t ∷ p.rest ∷ g t ∷ g' t ∷ q.rest ∷ h ∷ []) (((v 0 ⊕ v 6 ⊗ v 1) ⊕ (v 6 ⊗ v 6) ⊗ v 2) ⊗ ((v 3 ⊕ v 6 ⊗ v 4) ⊕ (v 6 ⊗ v 6) ⊗ v 5)) ((v 0 ⊗ v 3 ⊕ v 6 ⊗ (v 1 ⊗ v 3 ⊕ v 0 ⊗ v 4)) ⊕ (v 6 ⊗ v 6) ⊗ (((v 1 ⊗ v 4 ⊕ v 0 ⊗ v 5) ⊕ v 2 ⊗ v 3) ⊕ v 6 ⊗ ((v 1 ⊗ v 5 ⊕ v 2 ⊗ v 4) ⊕ v 6 ⊗ (v 2 ⊗ v 5)))) tt) }

-- c f d
pub times_at : (c d : ℤ) (f f' : ℤ → ℤ) (t h : ℤ) → Changes f f' t h → Changes (λ t. c *ℤ (f t *ℤ d)) (λ t. c *ℤ (f' t *ℤ d)) t h
times_at c d f f' t h p =
    record { rest = c *ℤ (p.rest *ℤ d); is = ap (λ z. c *ℤ (z *ℤ d)) p.is ∙ ring (c ∷ d ∷ f t ∷ f' t ∷ p.rest ∷ h ∷ []) (v 0 ⊗ (((v 2 ⊕ v 5 ⊗ v 3) ⊕ (v 5 ⊗ v 5) ⊗ v 4) ⊗ v 1)) ((v 0 ⊗ (v 2 ⊗ v 1) ⊕ v 5 ⊗ (v 0 ⊗ (v 3 ⊗ v 1))) ⊕ (v 5 ⊗ v 5) ⊗ (v 0 ⊗ (v 4 ⊗ v 1))) tt }

-- another expression of the derivative
pub as_at : (f g g' : ℤ → ℤ) (t h : ℤ) → g t ≡ g' t → Changes f g t h → Changes f g' t h
as_at f g g' t h e p = record { rest = p.rest; is = p.is ∙ ap (λ z. (f t +ℤ h *ℤ z) +ℤ (h *ℤ h) *ℤ p.rest) e }

-- ---- T_k has the derivative k U_(k-1)
-- (k + 2) U_(k+1) = 2 T_(k+1) + 2 u (k + 1) U_k - l^2 k U_(k-1)
slope_first : (u l : ℤ) → cleared_slope u l (suc (suc zero)) ≡ pos 2 *ℤ cleared_t u l (suc zero) +ℤ pos 2 *ℤ u *ℤ cleared_slope u l (suc zero) -ℤ l *ℤ l *ℤ cleared_slope u l zero
slope_first u l = ring (u ∷ l ∷ []) (lit (pos 2) ⊗ (lit (pos 2) ⊗ v 0)) (lit (pos 2) ⊗ v 0 ⊕ lit (pos 2) ⊗ v 0 ⊗ (lit (pos 1) ⊗ lit (pos 1)) ⊖ v 1 ⊗ v 1 ⊗ lit (pos 0)) tt

slope_step : (u l n t0 t1 u0 u1 u2 : ℤ) → t1 ≡ u *ℤ t0 -ℤ (l *ℤ l -ℤ u *ℤ u) *ℤ u0 → u1 ≡ t0 +ℤ u *ℤ u0 → u2 ≡ t1 +ℤ u *ℤ u1 → ((n +ℤ pos 2) +ℤ pos 1) *ℤ u2 ≡ pos 2 *ℤ t1 +ℤ pos 2 *ℤ u *ℤ ((n +ℤ pos 2) *ℤ u1) -ℤ l *ℤ l *ℤ ((n +ℤ pos 1) *ℤ u0)
slope_step u l n t0 t1 u0 u1 u2 e1 e2 e3 =
    let U : Poly = v 0 in
    let L : Poly = v 1 in
    let N : Poly = v 2 in
    let A : Poly = v 3 in
    let V : Poly = v 4 in
    let B : Poly = U ⊗ A ⊖ (L ⊗ L ⊖ U ⊗ U) ⊗ V in
    let C : Poly = A ⊕ U ⊗ V in
    rw (e3, e2, e1) (ring (u ∷ l ∷ n ∷ t0 ∷ u0 ∷ []) (((N ⊕ lit (pos 2)) ⊕ lit (pos 1)) ⊗ (B ⊕ U ⊗ C)) (lit (pos 2) ⊗ B ⊕ lit (pos 2) ⊗ U ⊗ ((N ⊕ lit (pos 2)) ⊗ C) ⊖ L ⊗ L ⊗ ((N ⊕ lit (pos 1)) ⊗ V)) tt)

slope_next : (u l : ℤ) (k : ℕ) → cleared_slope u l (suc (suc k)) ≡ pos 2 *ℤ cleared_t u l (suc k) +ℤ pos 2 *ℤ u *ℤ cleared_slope u l (suc k) -ℤ l *ℤ l *ℤ cleared_slope u l k
slope_next u l zero = slope_first u l
slope_next u l (suc k) =
    let m = mixed u l k in
    let n = mixed u l (suc k) in
    let e : pos (suc (suc (suc k))) ≡ (pos k +ℤ pos 2) +ℤ pos 1 = omega (arith, lin) in
    let f : pos (suc (suc k)) ≡ pos k +ℤ pos 2 = omega (arith, lin) in
    let g : pos (suc k) ≡ pos k +ℤ pos 1 = omega (arith, lin) in
    ap (λ z. z *ℤ cleared_u u l (suc (suc k))) e ∙ (slope_step u l (pos k) (cleared_t u l (suc k)) (cleared_t u l (suc (suc k))) (cleared_u u l k) (cleared_u u l (suc k)) (cleared_u u l (suc (suc k))) m.0 m.1 n.1 ∙ (ap (λ z. pos 2 *ℤ cleared_t u l (suc (suc k)) +ℤ pos 2 *ℤ u *ℤ (z *ℤ cleared_u u l (suc k)) -ℤ l *ℤ l *ℤ ((pos k +ℤ pos 1) *ℤ cleared_u u l k)) (sym f) ∙ ap (λ z. pos 2 *ℤ cleared_t u l (suc (suc k)) +ℤ pos 2 *ℤ u *ℤ (pos (suc (suc k)) *ℤ cleared_u u l (suc k)) -ℤ l *ℤ l *ℤ (z *ℤ cleared_u u l k)) (sym g)))

-- 2 u f - l^2 g
next_change : (l : ℤ) (f f' g g' : ℤ → ℤ) (u h : ℤ) → Changes f f' u h → Changes g g' u h → Changes (λ u. pos 2 *ℤ u *ℤ f u -ℤ l *ℤ l *ℤ g u) (λ u. pos 2 *ℤ f u +ℤ pos 2 *ℤ u *ℤ f' u -ℤ l *ℤ l *ℤ g' u) u h
next_change l f f' g g' u h p q =
    record { rest = (pos 2 *ℤ f' u +ℤ pos 2 *ℤ (u +ℤ h) *ℤ p.rest) -ℤ l *ℤ l *ℤ q.rest; is = ap (λ z. pos 2 *ℤ (u +ℤ h) *ℤ z -ℤ l *ℤ l *ℤ g (u +ℤ h)) p.is ∙ (ap (λ z. pos 2 *ℤ (u +ℤ h) *ℤ ((f u +ℤ h *ℤ f' u) +ℤ (h *ℤ h) *ℤ p.rest) -ℤ l *ℤ l *ℤ z) q.is ∙ ring (f u ∷ f' u ∷ p.rest ∷ g u ∷ g' u ∷ q.rest ∷ h ∷ u ∷ l ∷ []) (lit (pos 2) ⊗ (v 7 ⊕ v 6) ⊗ ((v 0 ⊕ v 6 ⊗ v 1) ⊕ (v 6 ⊗ v 6) ⊗ v 2) ⊖ v 8 ⊗ v 8 ⊗ ((v 3 ⊕ v 6 ⊗ v 4) ⊕ (v 6 ⊗ v 6) ⊗ v 5)) (((lit (pos 2) ⊗ v 7 ⊗ v 0 ⊖ v 8 ⊗ v 8 ⊗ v 3) ⊕ v 6 ⊗ (lit (pos 2) ⊗ v 0 ⊕ lit (pos 2) ⊗ v 7 ⊗ v 1 ⊖ v 8 ⊗ v 8 ⊗ v 4)) ⊕ (v 6 ⊗ v 6) ⊗ ((lit (pos 2) ⊗ v 1 ⊕ lit (pos 2) ⊗ (v 7 ⊕ v 6) ⊗ v 2) ⊖ v 8 ⊗ v 8 ⊗ v 5)) tt) }

both_slopes : (l : ℤ) (k : ℕ) → IsDerivative (λ u. cleared_t u l k) (λ u. cleared_slope u l k) × IsDerivative (λ u. cleared_t u l (suc k)) (λ u. cleared_slope u l (suc k))
both_slopes l zero = (constant (pos 1), itself)
both_slopes l (suc k) =
    let ih = both_slopes l k in
    (ih.1, λ u h. as_at (λ u. cleared_t u l (suc (suc k))) (λ u. pos 2 *ℤ cleared_t u l (suc k) +ℤ pos 2 *ℤ u *ℤ cleared_slope u l (suc k) -ℤ l *ℤ l *ℤ cleared_slope u l k) (λ u. cleared_slope u l (suc (suc k))) u h (sym (slope_next u l k)) (next_change l (λ u. cleared_t u l (suc k)) (λ u. cleared_slope u l (suc k)) (λ u. cleared_t u l k) (λ u. cleared_slope u l k) u h (ih.1 u h) (ih.0 u h)))

pub polynomial_slope : (l : ℤ) (k : ℕ) → IsDerivative (λ u. cleared_t u l k) (λ u. cleared_slope u l k)
polynomial_slope l k = (both_slopes l k).0

-- ---- the sum, and the position
sum_slope : (l : ℤ) (k : ℕ) (cs : List Decimal) → IsDerivative (λ u. cleared_sum (cleared_t u l) l k cs) (λ u. cleared_sum (cleared_slope u l) l k cs)
sum_slope l k [] u h = constant (pos 0) u h
sum_slope l k (c ∷ cs) u h =
    sum_at (λ u. scaled c *ℤ (cleared_t u l k *ℤ power l (length cs))) (λ u. scaled c *ℤ (cleared_slope u l k *ℤ power l (length cs))) (λ u. cleared_sum (cleared_t u l) l (suc k) cs) (λ u. cleared_sum (cleared_slope u l) l (suc k) cs) u h (times_at (scaled c) (power l (length cs)) (λ u. cleared_t u l k) (λ u. cleared_slope u l k) u h (polynomial_slope l k u h)) (sum_slope l (suc k) cs u h)

first_falls : (u l : ℤ) (cs : List Decimal) → cleared_sum (cleared_slope u l) l 0 cs ≡ cleared_sum (cleared_slope u l) l 1 (drop 1 cs)
first_falls u l [] = refl
first_falls u l (c ∷ cs) =
    ring (scaled c ∷ power l (length cs) ∷ cleared_sum (cleared_slope u l) l 1 cs ∷ []) (v 0 ⊗ (lit (pos 0) ⊗ v 1) ⊕ v 2) (v 2) tt

later : (s : Series) (t h : ℤ) → argument_at s (t +ℤ h) ≡ argument_at s t +ℤ pos 2 *ℤ h
later s t h = ring (t ∷ h ∷ s.start ∷ pos s.duration ∷ []) (lit (pos 2) ⊗ ((v 0 ⊕ v 1) ⊖ v 2) ⊖ v 3) ((lit (pos 2) ⊗ (v 0 ⊖ v 2) ⊖ v 3) ⊕ lit (pos 2) ⊗ v 1) tt

pub velocity_is_derivative : (s : Series) → IsDerivative (λ t. (position s t).numerator) (λ t. (velocity s t).numerator)
velocity_is_derivative s t h = by (sum_slope (pos s.duration) 0 s.coefficients (argument_at s t) (pos 2 *ℤ h))
  where
    f : ℤ → ℤ
    f u = cleared_sum (cleared_t u (pos s.duration)) (pos s.duration) 0 s.coefficients

    g : ℤ → ℤ
    g u = cleared_sum (cleared_slope u (pos s.duration)) (pos s.duration) 0 s.coefficients

    by : Changes f g (argument_at s t) (pos 2 *ℤ h) → Changes (λ t. (position s t).numerator) (λ t. (velocity s t).numerator) t h
    by p =
        record { rest = pos 4 *ℤ p.rest; is = ap f (later s t h) ∙ (p.is ∙ (ring (f (argument_at s t) ∷ g (argument_at s t) ∷ p.rest ∷ h ∷ []) ((v 0 ⊕ (lit (pos 2) ⊗ v 3) ⊗ v 1) ⊕ ((lit (pos 2) ⊗ v 3) ⊗ (lit (pos 2) ⊗ v 3)) ⊗ v 2) ((v 0 ⊕ v 3 ⊗ (lit (pos 2) ⊗ v 1)) ⊕ (v 3 ⊗ v 3) ⊗ (lit (pos 4) ⊗ v 2)) tt ∙ ap (λ z. (f (argument_at s t) +ℤ h *ℤ (pos 2 *ℤ z)) +ℤ (h *ℤ h) *ℤ (pos 4 *ℤ p.rest)) (first_falls (argument_at s t) (pos s.duration) s.coefficients))) }

pub one_denominator : (s : Series) (t : ℤ) → (velocity s t).denominator ≡ (position s t).denominator
one_denominator s t = refl

-- ---- there is one derivative
-- a number that is a multiple of one above its own size is 0
multiple : (d m : ℤ) → d ≡ pos (suc (unsigned_abs d)) *ℤ m → d ≡ pos 0
multiple d (pos zero) e = e ∙ ring (pos (suc (unsigned_abs d)) ∷ []) (v 0 ⊗ lit (pos 0)) (lit (pos 0)) tt
multiple d (pos (suc n)) e = absurd (too_large (unsigned_abs d) n (ap unsigned_abs e ∙ unsigned_abs-mul (pos (suc (unsigned_abs d))) (pos (suc n))))
  where
    too_large : (a n : ℕ) → a ≡ suc a * suc n → ⊥
    too_large a n e = omega (arith, e)
multiple d (negsuc n) e = absurd (too_large (unsigned_abs d) n (ap unsigned_abs e ∙ unsigned_abs-mul (pos (suc (unsigned_abs d))) (negsuc n)))
  where
    too_large : (a n : ℕ) → a ≡ suc a * suc n → ⊥
    too_large a n e = omega (arith, e)

pub one_derivative : (f g g' : ℤ → ℤ) → IsDerivative f g → IsDerivative f g' → (t : ℤ) → g t ≡ g' t
one_derivative f g g' p q t = by (p t h) (q t h)
  where
    h : ℤ
    h = pos (suc (unsigned_abs (g t -ℤ g' t)))

    by : Changes f g t h → Changes f g' t h → g t ≡ g' t
    by a b =
        let e : (f t +ℤ h *ℤ g t) +ℤ (h *ℤ h) *ℤ a.rest ≡ (f t +ℤ h *ℤ g' t) +ℤ (h *ℤ h) *ℤ b.rest = sym a.is ∙ b.is in
        let i : ((g t -ℤ g' t) -ℤ h *ℤ (b.rest -ℤ a.rest)) *ℤ h ≡ ((f t +ℤ h *ℤ g t) +ℤ (h *ℤ h) *ℤ a.rest) -ℤ ((f t +ℤ h *ℤ g' t) +ℤ (h *ℤ h) *ℤ b.rest) = ring (f t ∷ g t ∷ g' t ∷ a.rest ∷ b.rest ∷ h ∷ []) (((v 1 ⊖ v 2) ⊖ v 5 ⊗ (v 4 ⊖ v 3)) ⊗ v 5) (((v 0 ⊕ v 5 ⊗ v 1) ⊕ (v 5 ⊗ v 5) ⊗ v 3) ⊖ ((v 0 ⊕ v 5 ⊗ v 2) ⊕ (v 5 ⊗ v 5) ⊗ v 4)) tt in
        let z : ((g t -ℤ g' t) -ℤ h *ℤ (b.rest -ℤ a.rest)) ≡ pos 0 = cancel_zero ((g t -ℤ g' t) -ℤ h *ℤ (b.rest -ℤ a.rest)) h (omega (arith, lin)) (omega (arith, lin)) in
        let m : g t -ℤ g' t ≡ h *ℤ (b.rest -ℤ a.rest) = omega (arith, lin) in
        let n : g t -ℤ g' t ≡ pos 0 = multiple (g t -ℤ g' t) (b.rest -ℤ a.rest) m in
        omega (arith, lin)

-- ---- what changes of places that move
module _ (a a' b b' : ℤ → Triple) (p : IsVelocity a a') (q : IsVelocity b b') where
  pub dot_derivative : IsDerivative (λ t. dot (a t) (b t)) (λ t. dot (a' t) (b t) +ℤ dot (a t) (b' t))
  dot_derivative t h =
      let x = product_at (λ t. (a t).x) (λ t. (a' t).x) (λ t. (b t).x) (λ t. (b' t).x) t h (p.x t h) (q.x t h) in
      let y = product_at (λ t. (a t).y) (λ t. (a' t).y) (λ t. (b t).y) (λ t. (b' t).y) t h (p.y t h) (q.y t h) in
      let z = product_at (λ t. (a t).z) (λ t. (a' t).z) (λ t. (b t).z) (λ t. (b' t).z) t h (p.z t h) (q.z t h) in
      let xy = sum_at (λ t. (a t).x *ℤ (b t).x) (λ t. (a' t).x *ℤ (b t).x +ℤ (a t).x *ℤ (b' t).x) (λ t. (a t).y *ℤ (b t).y) (λ t. (a' t).y *ℤ (b t).y +ℤ (a t).y *ℤ (b' t).y) t h x y in
      let xyz = sum_at (λ t. (a t).x *ℤ (b t).x +ℤ (a t).y *ℤ (b t).y) (λ t. ((a' t).x *ℤ (b t).x +ℤ (a t).x *ℤ (b' t).x) +ℤ ((a' t).y *ℤ (b t).y +ℤ (a t).y *ℤ (b' t).y)) (λ t. (a t).z *ℤ (b t).z) (λ t. (a' t).z *ℤ (b t).z +ℤ (a t).z *ℤ (b' t).z) t h xy z in
      as_at (λ t. dot (a t) (b t)) (λ t. (((a' t).x *ℤ (b t).x +ℤ (a t).x *ℤ (b' t).x) +ℤ ((a' t).y *ℤ (b t).y +ℤ (a t).y *ℤ (b' t).y)) +ℤ ((a' t).z *ℤ (b t).z +ℤ (a t).z *ℤ (b' t).z)) (λ t. dot (a' t) (b t) +ℤ dot (a t) (b' t)) t h (omega (arith, lin)) xyz

twice : (a a' : Triple) → dot a' a +ℤ dot a a' ≡ pos 2 *ℤ dot a a'
twice a a' =
    ring (a.x ∷ a.y ∷ a.z ∷ a'.x ∷ a'.y ∷ a'.z ∷ []) (((v 3 ⊗ v 0 ⊕ v 4 ⊗ v 1) ⊕ v 5 ⊗ v 2) ⊕ ((v 0 ⊗ v 3 ⊕ v 1 ⊗ v 4) ⊕ v 2 ⊗ v 5)) (lit (pos 2) ⊗ ((v 0 ⊗ v 3 ⊕ v 1 ⊗ v 4) ⊕ v 2 ⊗ v 5)) tt

pub square_derivative : (a a' : ℤ → Triple) → IsVelocity a a' → IsDerivative (λ t. square (a t)) (λ t. pos 2 *ℤ dot (a t) (a' t))
square_derivative a a' p t h =
    as_at (λ t. square (a t)) (λ t. dot (a' t) (a t) +ℤ dot (a t) (a' t)) (λ t. pos 2 *ℤ dot (a t) (a' t)) t h (twice (a t) (a' t)) (dot_derivative a a' a a' p p t h)

pub squares_derivative : (a a' b b' : ℤ → Triple) → IsVelocity a a' → IsVelocity b b' → IsDerivative (squares_product a b) (λ t. pos 2 *ℤ half_change a a' b b' t)
squares_derivative a a' b b' p q t h =
    as_at (squares_product a b) (λ t. (pos 2 *ℤ dot (a t) (a' t)) *ℤ square (b t) +ℤ square (a t) *ℤ (pos 2 *ℤ dot (b t) (b' t))) (λ t. pos 2 *ℤ half_change a a' b b' t) t h (ring (dot (a t) (a' t) ∷ square (b t) ∷ square (a t) ∷ dot (b t) (b' t) ∷ []) ((lit (pos 2) ⊗ v 0) ⊗ v 1 ⊕ v 2 ⊗ (lit (pos 2) ⊗ v 3)) (lit (pos 2) ⊗ (v 0 ⊗ v 1 ⊕ v 2 ⊗ v 3)) tt) (product_at (λ t. square (a t)) (λ t. pos 2 *ℤ dot (a t) (a' t)) (λ t. square (b t)) (λ t. pos 2 *ℤ dot (b t) (b' t)) t h (square_derivative a a' p t h) (square_derivative b b' q t h))

-- from one direction: the cross product with a place that stands still
pub turn_derivative : (o : Triple) (a a' : ℤ → Triple) → IsVelocity a a' → IsDerivative (λ t. plane_cross o (a t)) (λ t. plane_cross o (a' t))
turn_derivative o a a' p t h =
    let y = product_at (λ t. o.x) (λ t. pos 0) (λ t. (a t).y) (λ t. (a' t).y) t h (constant o.x t h) (p.y t h) in
    let x = product_at (λ t. o.y) (λ t. pos 0) (λ t. (a t).x) (λ t. (a' t).x) t h (constant o.y t h) (p.x t h) in
    as_at (λ t. plane_cross o (a t)) (λ t. (pos 0 *ℤ (a t).y +ℤ o.x *ℤ (a' t).y) -ℤ (pos 0 *ℤ (a t).x +ℤ o.y *ℤ (a' t).x)) (λ t. plane_cross o (a' t)) t h (ring ((a t).y ∷ o.x ∷ (a' t).y ∷ (a t).x ∷ o.y ∷ (a' t).x ∷ []) ((lit (pos 0) ⊗ v 0 ⊕ v 1 ⊗ v 2) ⊖ (lit (pos 0) ⊗ v 3 ⊕ v 4 ⊗ v 5)) (v 1 ⊗ v 2 ⊖ v 4 ⊗ v 5) tt) (difference_at (λ t. o.x *ℤ (a t).y) (λ t. pos 0 *ℤ (a t).y +ℤ o.x *ℤ (a' t).y) (λ t. o.y *ℤ (a t).x) (λ t. pos 0 *ℤ (a t).x +ℤ o.y *ℤ (a' t).x) t h y x)
