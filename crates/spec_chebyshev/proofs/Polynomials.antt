-- What the polynomials cleared of fractions obey: T and U by each other, the circle, and the size of T.
use Rattle.std.proofs.Common.{◌≡◌, ℕ, zero, suc, arith, refl, ap, ◌∙◌, [], ◌∷◌, ℤ, pos, negsuc, ◌+ℤ◌, ◌-ℤ◌, ◌*ℤ◌, neg_ℤ, ◌≤ℤ◌}
use Rattle.spec_chebyshev.specs.Polynomials.{cleared_t, cleared_u}
use Rattle.spec_numbers.specs.Numbers.{power}
use Rattle.spec_chebyshev.specs.Differences.{difference_t, difference_u}
use Rattle.spec_numbers.proofs.Ring.{Poly, v, k as lit, ◌⊕◌, ◌⊖◌, ◌⊗◌, minus, ring}
use Rattle.spec_numbers.proofs.Order.{lin, nonneg-square}
use Rattle.spec_numbers.proofs.Whole.{nonneg-mul}

-- ---- the numbers of a step in the order in which they are given to `ring`, and l^2 - u^2
abbrev U : Poly
U = v 0

abbrev L : Poly
L = v 1

abbrev A : Poly
A = v 2

abbrev V : Poly
V = v 3

abbrev D : Poly
D = L ⊗ L ⊖ U ⊗ U

-- ---- T (k + 2) = u T (k + 1) - (l^2 - u^2) U k, and U (k + 1) = T (k + 1) + u U k
t_step : (u l a w h w1 : ℤ) → h ≡ u *ℤ a -ℤ (l *ℤ l -ℤ u *ℤ u) *ℤ w → w1 ≡ a +ℤ u *ℤ w → pos 2 *ℤ u *ℤ h -ℤ l *ℤ l *ℤ a ≡ u *ℤ h -ℤ (l *ℤ l -ℤ u *ℤ u) *ℤ w1
t_step u l a w h w1 e f =
    let B : Poly = U ⊗ A ⊖ D ⊗ V in
    rw (e, f) (ring (u ∷ l ∷ a ∷ w ∷ []) (lit (pos 2) ⊗ U ⊗ B ⊖ L ⊗ L ⊗ A) (U ⊗ B ⊖ D ⊗ (A ⊕ U ⊗ V)) tt)

u_step : (u l a w h w1 : ℤ) → h ≡ u *ℤ a -ℤ (l *ℤ l -ℤ u *ℤ u) *ℤ w → w1 ≡ a +ℤ u *ℤ w → pos 2 *ℤ u *ℤ w1 -ℤ l *ℤ l *ℤ w ≡ h +ℤ u *ℤ w1
u_step u l a w h w1 e f =
    let B : Poly = U ⊗ A ⊖ D ⊗ V in
    let C : Poly = A ⊕ U ⊗ V in
    rw (e, f) (ring (u ∷ l ∷ a ∷ w ∷ []) (lit (pos 2) ⊗ U ⊗ C ⊖ L ⊗ L ⊗ V) (B ⊕ U ⊗ C) tt)

pub mixed : (u l : ℤ) (k : ℕ) → (cleared_t u l (suc (suc k)) ≡ u *ℤ cleared_t u l (suc k) -ℤ (l *ℤ l -ℤ u *ℤ u) *ℤ cleared_u u l k) × (cleared_u u l (suc k) ≡ cleared_t u l (suc k) +ℤ u *ℤ cleared_u u l k)
mixed u l zero =
    (ring (u ∷ l ∷ []) (lit (pos 2) ⊗ v 0 ⊗ v 0 ⊖ v 1 ⊗ v 1 ⊗ lit (pos 1)) (v 0 ⊗ v 0 ⊖ (v 1 ⊗ v 1 ⊖ v 0 ⊗ v 0) ⊗ lit (pos 1)) tt, ring (u ∷ []) (lit (pos 2) ⊗ v 0) (v 0 ⊕ v 0 ⊗ lit (pos 1)) tt)
mixed u l (suc k) =
    let ih : (cleared_t u l (suc (suc k)) ≡ u *ℤ cleared_t u l (suc k) -ℤ (l *ℤ l -ℤ u *ℤ u) *ℤ cleared_u u l k) × (cleared_u u l (suc k) ≡ cleared_t u l (suc k) +ℤ u *ℤ cleared_u u l k) = mixed u l k in
    (t_step u l (cleared_t u l (suc k)) (cleared_u u l k) (cleared_t u l (suc (suc k))) (cleared_u u l (suc k)) ih.0 ih.1, u_step u l (cleared_t u l (suc k)) (cleared_u u l k) (cleared_t u l (suc (suc k))) (cleared_u u l (suc k)) ih.0 ih.1)

-- ---- T (k + 1) ^ 2 + (l^2 - u^2) U k ^ 2 = l ^ (2 k + 2)
circle_step : (u l a w : ℤ) → (u *ℤ a -ℤ (l *ℤ l -ℤ u *ℤ u) *ℤ w) *ℤ (u *ℤ a -ℤ (l *ℤ l -ℤ u *ℤ u) *ℤ w) +ℤ (l *ℤ l -ℤ u *ℤ u) *ℤ ((a +ℤ u *ℤ w) *ℤ (a +ℤ u *ℤ w)) ≡ (l *ℤ l) *ℤ (a *ℤ a +ℤ (l *ℤ l -ℤ u *ℤ u) *ℤ (w *ℤ w))
circle_step u l a w =
    ring (u ∷ l ∷ a ∷ w ∷ []) ((U ⊗ A ⊖ D ⊗ V) ⊗ (U ⊗ A ⊖ D ⊗ V) ⊕ D ⊗ ((A ⊕ U ⊗ V) ⊗ (A ⊕ U ⊗ V))) ((L ⊗ L) ⊗ (A ⊗ A ⊕ D ⊗ (V ⊗ V))) tt

pub circle : (u l : ℤ) (k : ℕ) → cleared_t u l (suc k) *ℤ cleared_t u l (suc k) +ℤ (l *ℤ l -ℤ u *ℤ u) *ℤ (cleared_u u l k *ℤ cleared_u u l k) ≡ power (l *ℤ l) (suc k)
circle u l zero =
    ring (u ∷ l ∷ []) (v 0 ⊗ v 0 ⊕ (v 1 ⊗ v 1 ⊖ v 0 ⊗ v 0) ⊗ (lit (pos 1) ⊗ lit (pos 1))) ((v 1 ⊗ v 1) ⊗ lit (pos 1)) tt
circle u l (suc k) =
    let m : (cleared_t u l (suc (suc k)) ≡ u *ℤ cleared_t u l (suc k) -ℤ (l *ℤ l -ℤ u *ℤ u) *ℤ cleared_u u l k) × (cleared_u u l (suc k) ≡ cleared_t u l (suc k) +ℤ u *ℤ cleared_u u l k) = mixed u l k in
    ap (λ x. x *ℤ x +ℤ (l *ℤ l -ℤ u *ℤ u) *ℤ (cleared_u u l (suc k) *ℤ cleared_u u l (suc k))) m.0 ∙ (ap (λ y. (u *ℤ cleared_t u l (suc k) -ℤ (l *ℤ l -ℤ u *ℤ u) *ℤ cleared_u u l k) *ℤ (u *ℤ cleared_t u l (suc k) -ℤ (l *ℤ l -ℤ u *ℤ u) *ℤ cleared_u u l k) +ℤ (l *ℤ l -ℤ u *ℤ u) *ℤ (y *ℤ y)) m.1 ∙ (circle_step u l (cleared_t u l (suc k)) (cleared_u u l k) ∙ ap (λ x. (l *ℤ l) *ℤ x) (circle u l k)))

-- ---- |T k| <= l ^ k
power_square : (l : ℤ) (k : ℕ) → power (l *ℤ l) k ≡ power l k *ℤ power l k
power_square l zero = refl
power_square l (suc k) =
    ap (λ x. (l *ℤ l) *ℤ x) (power_square l k) ∙ ring (l ∷ power l k ∷ []) ((v 0 ⊗ v 0) ⊗ (v 1 ⊗ v 1)) ((v 0 ⊗ v 1) ⊗ (v 0 ⊗ v 1)) tt

pub nonneg-power : (l : ℤ) (k : ℕ) → pos 0 ≤ℤ l → pos 0 ≤ℤ power l k
nonneg-power l zero h = omega (arith, lin)
nonneg-power l (suc k) h = nonneg-mul l (power l k) h (nonneg-power l k h)

-- a root of a smaller square is smaller: else b + 1 <= a, and (b + 1)^2 <= a^2
pub le_from_squares : (a b : ℤ) → pos 0 ≤ℤ b → (a *ℤ a) ≤ℤ (b *ℤ b) → a ≤ℤ b
le_from_squares a b h q = by (a -ℤ b -ℤ pos 1) refl
  where
    by : (d : ℤ) → a -ℤ b -ℤ pos 1 ≡ d → a ≤ℤ b
    by (negsuc n) e = omega (arith, lin)
    by (pos n) e =
        let r : a *ℤ a -ℤ b *ℤ b -ℤ pos 1 ≡ (a -ℤ b -ℤ pos 1) *ℤ (a -ℤ b -ℤ pos 1) +ℤ pos 2 *ℤ ((a -ℤ b -ℤ pos 1) *ℤ (b +ℤ pos 1)) +ℤ pos 2 *ℤ b = ring (a ∷ b ∷ []) (v 0 ⊗ v 0 ⊖ v 1 ⊗ v 1 ⊖ lit (pos 1)) ((v 0 ⊖ v 1 ⊖ lit (pos 1)) ⊗ (v 0 ⊖ v 1 ⊖ lit (pos 1)) ⊕ lit (pos 2) ⊗ ((v 0 ⊖ v 1 ⊖ lit (pos 1)) ⊗ (v 1 ⊕ lit (pos 1))) ⊕ lit (pos 2) ⊗ v 1) tt in
        let d0 : pos 0 ≤ℤ (a -ℤ b -ℤ pos 1) = omega (arith, lin) in
        let s : pos 0 ≤ℤ ((a -ℤ b -ℤ pos 1) *ℤ (a -ℤ b -ℤ pos 1)) = nonneg-square (a -ℤ b -ℤ pos 1) in
        let p : pos 0 ≤ℤ ((a -ℤ b -ℤ pos 1) *ℤ (b +ℤ pos 1)) = nonneg-mul (a -ℤ b -ℤ pos 1) (b +ℤ pos 1) d0 (omega (arith, lin)) in
        let p2 : pos 0 ≤ℤ (pos 2 *ℤ ((a -ℤ b -ℤ pos 1) *ℤ (b +ℤ pos 1))) = nonneg-mul (pos 2) ((a -ℤ b -ℤ pos 1) *ℤ (b +ℤ pos 1)) (omega (arith, lin)) p in
        let b2 : pos 0 ≤ℤ (pos 2 *ℤ b) = nonneg-mul (pos 2) b (omega (arith, lin)) h in
        absurd (omega (arith, lin))

-- by the circle, the square of a polynomial is at most that of the power
square_within : (u l : ℤ) (k : ℕ) → u ≤ℤ l → neg_ℤ l ≤ℤ u → (cleared_t u l (suc k) *ℤ cleared_t u l (suc k)) ≤ℤ (power l (suc k) *ℤ power l (suc k))
square_within u l k p q =
    let c : cleared_t u l (suc k) *ℤ cleared_t u l (suc k) +ℤ (l *ℤ l -ℤ u *ℤ u) *ℤ (cleared_u u l k *ℤ cleared_u u l k) ≡ power l (suc k) *ℤ power l (suc k) = circle u l k ∙ power_square l (suc k) in
    let d : l *ℤ l -ℤ u *ℤ u ≡ (l -ℤ u) *ℤ (l +ℤ u) = ring (u ∷ l ∷ []) (v 1 ⊗ v 1 ⊖ v 0 ⊗ v 0) ((v 1 ⊖ v 0) ⊗ (v 1 ⊕ v 0)) tt in
    let n : pos 0 ≤ℤ ((l -ℤ u) *ℤ (l +ℤ u)) = nonneg-mul (l -ℤ u) (l +ℤ u) (omega (arith, lin)) (omega (arith, lin)) in
    let n2 : pos 0 ≤ℤ (l *ℤ l -ℤ u *ℤ u) = rw d n in
    let m : pos 0 ≤ℤ ((l *ℤ l -ℤ u *ℤ u) *ℤ (cleared_u u l k *ℤ cleared_u u l k)) = nonneg-mul (l *ℤ l -ℤ u *ℤ u) (cleared_u u l k *ℤ cleared_u u l k) n2 (nonneg-square (cleared_u u l k)) in
    omega (arith, lin)

pub cleared_t-above : (u l : ℤ) (k : ℕ) → pos 0 ≤ℤ l → u ≤ℤ l → neg_ℤ l ≤ℤ u → cleared_t u l k ≤ℤ power l k
cleared_t-above u l zero h p q = omega (arith, lin)
cleared_t-above u l (suc k) h p q = le_from_squares (cleared_t u l (suc k)) (power l (suc k)) (nonneg-power l (suc k) h) (square_within u l k p q)

pub cleared_t-below : (u l : ℤ) (k : ℕ) → pos 0 ≤ℤ l → u ≤ℤ l → neg_ℤ l ≤ℤ u → neg_ℤ (power l k) ≤ℤ cleared_t u l k
cleared_t-below u l zero h p q = omega (arith, lin)
cleared_t-below u l (suc k) h p q =
    let s = square_within u l k p q in
    let e : neg_ℤ (cleared_t u l (suc k)) *ℤ neg_ℤ (cleared_t u l (suc k)) ≡ cleared_t u l (suc k) *ℤ cleared_t u l (suc k) = ring (cleared_t u l (suc k) ∷ []) (minus (v 0) ⊗ minus (v 0)) (v 0 ⊗ v 0) tt in
    let r : neg_ℤ (cleared_t u l (suc k)) ≤ℤ power l (suc k) = le_from_squares (neg_ℤ (cleared_t u l (suc k))) (power l (suc k)) (nonneg-power l (suc k) h) (omega (arith, lin)) in
    omega (arith, lin)

-- ---- divided differences: a polynomial at a less the same at u is (a - u) times its divided difference
difference_step : (a u l h0 h1 q0 q1 g0 g1 : ℤ) → g0 ≡ h0 +ℤ (a -ℤ u) *ℤ q0 → g1 ≡ h1 +ℤ (a -ℤ u) *ℤ q1 → pos 2 *ℤ a *ℤ g1 -ℤ l *ℤ l *ℤ g0 ≡ (pos 2 *ℤ u *ℤ h1 -ℤ l *ℤ l *ℤ h0) +ℤ (a -ℤ u) *ℤ (pos 2 *ℤ u *ℤ q1 +ℤ pos 2 *ℤ g1 -ℤ l *ℤ l *ℤ q0)
difference_step a u l h0 h1 q0 q1 g0 g1 e f =
    let A : Poly = v 0 in
    let U : Poly = v 1 in
    let L : Poly = v 2 in
    let G0 : Poly = v 3 ⊕ (A ⊖ U) ⊗ v 5 in
    let G1 : Poly = v 4 ⊕ (A ⊖ U) ⊗ v 6 in
    rw (e, f) (ring (a ∷ u ∷ l ∷ h0 ∷ h1 ∷ q0 ∷ q1 ∷ []) (lit (pos 2) ⊗ A ⊗ G1 ⊖ L ⊗ L ⊗ G0) ((lit (pos 2) ⊗ U ⊗ v 4 ⊖ L ⊗ L ⊗ v 3) ⊕ (A ⊖ U) ⊗ (lit (pos 2) ⊗ U ⊗ v 6 ⊕ lit (pos 2) ⊗ G1 ⊖ L ⊗ L ⊗ v 5)) tt)

t_two : (a u l : ℤ) (k : ℕ) → (cleared_t a l k ≡ cleared_t u l k +ℤ (a -ℤ u) *ℤ difference_t a u l k) × (cleared_t a l (suc k) ≡ cleared_t u l (suc k) +ℤ (a -ℤ u) *ℤ difference_t a u l (suc k))
t_two a u l zero =
    (ring (a ∷ u ∷ []) (lit (pos 1)) (lit (pos 1) ⊕ (v 0 ⊖ v 1) ⊗ lit (pos 0)) tt, ring (a ∷ u ∷ []) (v 0) (v 1 ⊕ (v 0 ⊖ v 1) ⊗ lit (pos 1)) tt)
t_two a u l (suc k) =
    let ih : (cleared_t a l k ≡ cleared_t u l k +ℤ (a -ℤ u) *ℤ difference_t a u l k) × (cleared_t a l (suc k) ≡ cleared_t u l (suc k) +ℤ (a -ℤ u) *ℤ difference_t a u l (suc k)) = t_two a u l k in
    (ih.1, difference_step a u l (cleared_t u l k) (cleared_t u l (suc k)) (difference_t a u l k) (difference_t a u l (suc k)) (cleared_t a l k) (cleared_t a l (suc k)) ih.0 ih.1)

u_two : (a u l : ℤ) (k : ℕ) → (cleared_u a l k ≡ cleared_u u l k +ℤ (a -ℤ u) *ℤ difference_u a u l k) × (cleared_u a l (suc k) ≡ cleared_u u l (suc k) +ℤ (a -ℤ u) *ℤ difference_u a u l (suc k))
u_two a u l zero =
    (ring (a ∷ u ∷ []) (lit (pos 1)) (lit (pos 1) ⊕ (v 0 ⊖ v 1) ⊗ lit (pos 0)) tt, ring (a ∷ u ∷ []) (lit (pos 2) ⊗ v 0) (lit (pos 2) ⊗ v 1 ⊕ (v 0 ⊖ v 1) ⊗ lit (pos 2)) tt)
u_two a u l (suc k) =
    let ih : (cleared_u a l k ≡ cleared_u u l k +ℤ (a -ℤ u) *ℤ difference_u a u l k) × (cleared_u a l (suc k) ≡ cleared_u u l (suc k) +ℤ (a -ℤ u) *ℤ difference_u a u l (suc k)) = u_two a u l k in
    (ih.1, difference_step a u l (cleared_u u l k) (cleared_u u l (suc k)) (difference_u a u l k) (difference_u a u l (suc k)) (cleared_u a l k) (cleared_u a l (suc k)) ih.0 ih.1)

pub t_divided : (a u l : ℤ) (k : ℕ) → cleared_t a l k ≡ cleared_t u l k +ℤ (a -ℤ u) *ℤ difference_t a u l k
t_divided a u l k = (t_two a u l k).0

pub u_divided : (a u l : ℤ) (k : ℕ) → cleared_u a l k ≡ cleared_u u l k +ℤ (a -ℤ u) *ℤ difference_u a u l k
u_divided a u l k = (u_two a u l k).0

two_more : (u : ℤ) → u +ℤ pos 2 -ℤ u ≡ pos 2
two_more u = omega (arith, lin)

pub t_one_second : (u l : ℤ) (k : ℕ) → cleared_t (u +ℤ pos 2) l k ≡ cleared_t u l k +ℤ pos 2 *ℤ difference_t (u +ℤ pos 2) u l k
t_one_second u l k = t_divided (u +ℤ pos 2) u l k ∙ ap (λ d. cleared_t u l k +ℤ d *ℤ difference_t (u +ℤ pos 2) u l k) (two_more u)

pub u_one_second : (u l : ℤ) (k : ℕ) → cleared_u (u +ℤ pos 2) l k ≡ cleared_u u l k +ℤ pos 2 *ℤ difference_u (u +ℤ pos 2) u l k
u_one_second u l k = u_divided (u +ℤ pos 2) u l k ∙ ap (λ d. cleared_u u l k +ℤ d *ℤ difference_u (u +ℤ pos 2) u l k) (two_more u)
