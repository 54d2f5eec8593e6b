-- Discs that overlap.
use Rattle.std.proofs.Common.{◌≡◌, arith, refl, ap, ◌∙◌, suc, [], ◌∷◌, ℤ, pos, negsuc, ◌+ℤ◌, ◌-ℤ◌, ◌*ℤ◌, neg_ℤ, ◌≤ℤ◌, ◌<ℤ◌}
use Rattle.std.proofs.lemmas.Int.{by_lt_z}
use Rattle.spec_numbers.proofs.Ring.{v, k as lit, ◌⊕◌, ◌⊖◌, ◌⊗◌, minus, ring}
use Rattle.spec_numbers.proofs.Order.{lin, le-mul, nonneg-square}
use Rattle.spec_numbers.proofs.Whole.{nonneg-mul}
use Rattle.spec_intervals.specs.Interval.{signed_sq}
use Rattle.spec_meanings.specs.Space.{Triple, dot, square}
use Rattle.spec_meanings.specs.Rays.{combined, IsSphere, SomeRayMeetsBoth}
use Rattle.spec_meanings.proofs.Cancel.{positive-mul, cancel_le, cancel_low, low_from_squares, le-products}
use Rattle.spec_meanings.proofs.Rays.{cross, square_low, lagrange, cauchy, IsTowards, towards, meets}
use Rattle.spec_meanings.proofs.Variables.{inner, together, triple}

-- ---- signed squares
pub signed_own : (e : ℤ) → pos 0 ≤ℤ e → signed_sq e ≡ e *ℤ e
signed_own (pos n) h = refl
signed_own (negsuc n) h = absurd (omega (arith, lin))

pub root_low : (e g : ℤ) → pos 0 <ℤ g → g ≤ℤ signed_sq e → (pos 0 ≤ℤ e) × (g ≤ℤ (e *ℤ e))
root_low (pos n) g p h = (omega (arith, lin), h)
root_low (negsuc n) g p h =
    let e : pos 0 <ℤ (pos (suc n) *ℤ pos (suc n)) = positive-mul (pos (suc n)) (pos (suc n)) (omega (arith, lin)) (omega (arith, lin)) in
    let f : neg_ℤ (pos (suc n)) *ℤ pos (suc n) ≡ neg_ℤ (pos (suc n) *ℤ pos (suc n)) = ring (pos (suc n) ∷ []) (minus (v 0) ⊗ v 0) (minus (v 0 ⊗ v 0)) tt in
    absurd (omega (arith, lin))

-- ---- where one ray meets both
module _ (w p q : Triple) (r s : ℤ) (front : IsSphere p r) (back : IsSphere q s) (f : IsTowards w p r) (g : IsTowards w q s) where
  -- -W r s <= (w x p).(w x q)
  crossed : neg_ℤ (square w *ℤ (r *ℤ s)) ≤ℤ dot (cross w p) (cross w q)
  crossed =
      let lp = lagrange w p p in
      let lq = lagrange w q q in
      let ep : square w *ℤ (square p -ℤ r *ℤ r) ≡ square w *ℤ square p -ℤ square w *ℤ (r *ℤ r) = ring (square w ∷ square p ∷ r ∷ []) (v 0 ⊗ (v 1 ⊖ v 2 ⊗ v 2)) (v 0 ⊗ v 1 ⊖ v 0 ⊗ (v 2 ⊗ v 2)) tt in
      let eq : square w *ℤ (square q -ℤ s *ℤ s) ≡ square w *ℤ square q -ℤ square w *ℤ (s *ℤ s) = ring (square w ∷ square q ∷ s ∷ []) (v 0 ⊗ (v 1 ⊖ v 2 ⊗ v 2)) (v 0 ⊗ v 1 ⊖ v 0 ⊗ (v 2 ⊗ v 2)) tt in
      let cp : (square w *ℤ (square p -ℤ r *ℤ r)) ≤ℤ (dot w p *ℤ dot w p) = f.close in
      let cq : (square w *ℤ (square q -ℤ s *ℤ s)) ≤ℤ (dot w q *ℤ dot w q) = g.close in
      let up : square (cross w p) ≤ℤ (square w *ℤ (r *ℤ r)) = omega (arith, lin) in
      let uq : square (cross w q) ≤ℤ (square w *ℤ (s *ℤ s)) = omega (arith, lin) in
      let w0 : pos 0 ≤ℤ square w = square_low w in
      let rr : pos 0 ≤ℤ (square w *ℤ (r *ℤ r)) = nonneg-mul (square w) (r *ℤ r) w0 (nonneg-square r) in
      let both : (square (cross w p) *ℤ square (cross w q)) ≤ℤ ((square w *ℤ (r *ℤ r)) *ℤ (square w *ℤ (s *ℤ s))) = le-products (square (cross w p)) (square w *ℤ (r *ℤ r)) (square (cross w q)) (square w *ℤ (s *ℤ s)) rr (square_low (cross w q)) up uq in
      let c = cauchy (cross w p) (cross w q) in
      let e : (square w *ℤ (r *ℤ r)) *ℤ (square w *ℤ (s *ℤ s)) ≡ (square w *ℤ (r *ℤ s)) *ℤ (square w *ℤ (r *ℤ s)) = ring (square w ∷ r ∷ s ∷ []) ((v 0 ⊗ (v 1 ⊗ v 1)) ⊗ (v 0 ⊗ (v 2 ⊗ v 2))) ((v 0 ⊗ (v 1 ⊗ v 2)) ⊗ (v 0 ⊗ (v 1 ⊗ v 2))) tt in
      low_from_squares (dot (cross w p) (cross w q)) (square w *ℤ (r *ℤ s)) (nonneg-mul (square w) (r *ℤ s) w0 (nonneg-mul r s front.radius back.radius)) (omega (arith, lin))

  -- x y <= (D + r s) W
  products : (dot w p *ℤ dot w q) ≤ℤ ((dot p q +ℤ r *ℤ s) *ℤ square w)
  products =
      let c = crossed in
      let l = lagrange w p q in
      let e : (dot p q +ℤ r *ℤ s) *ℤ square w ≡ square w *ℤ dot p q +ℤ square w *ℤ (r *ℤ s) = ring (dot p q ∷ (r *ℤ s) ∷ square w ∷ []) ((v 0 ⊕ v 1) ⊗ v 2) (v 2 ⊗ v 0 ⊕ v 2 ⊗ v 1) tt in
      omega (arith, lin)

  pub overlap_low : pos 0 ≤ℤ (signed_sq (dot p q +ℤ r *ℤ s) -ℤ (square p -ℤ r *ℤ r) *ℤ (square q -ℤ s *ℤ s))
  overlap_low =
      let h = products in
      let xy : pos 0 ≤ℤ (dot w p *ℤ dot w q) = nonneg-mul (dot w p) (dot w q) f.ahead g.ahead in
      let e0 : pos 0 ≤ℤ (dot p q +ℤ r *ℤ s) = cancel_low (dot p q +ℤ r *ℤ s) (square w) f.direction (omega (arith, lin)) in
      let ew : pos 0 ≤ℤ ((dot p q +ℤ r *ℤ s) *ℤ square w) = omega (arith, lin) in
      let sq : ((dot w p *ℤ dot w q) *ℤ (dot w p *ℤ dot w q)) ≤ℤ (((dot p q +ℤ r *ℤ s) *ℤ square w) *ℤ ((dot p q +ℤ r *ℤ s) *ℤ square w)) = le-products (dot w p *ℤ dot w q) ((dot p q +ℤ r *ℤ s) *ℤ square w) (dot w p *ℤ dot w q) ((dot p q +ℤ r *ℤ s) *ℤ square w) ew xy h h in
      let wb : pos 0 ≤ℤ (square w *ℤ (square q -ℤ s *ℤ s)) = nonneg-mul (square w) (square q -ℤ s *ℤ s) (square_low w) (omega (arith, lin, back.outside)) in
      let lo : ((square w *ℤ (square p -ℤ r *ℤ r)) *ℤ (square w *ℤ (square q -ℤ s *ℤ s))) ≤ℤ ((dot w p *ℤ dot w p) *ℤ (dot w q *ℤ dot w q)) = le-products (square w *ℤ (square p -ℤ r *ℤ r)) (dot w p *ℤ dot w p) (square w *ℤ (square q -ℤ s *ℤ s)) (dot w q *ℤ dot w q) (nonneg-square (dot w p)) wb f.close g.close in
      let e1 : (dot w p *ℤ dot w p) *ℤ (dot w q *ℤ dot w q) ≡ (dot w p *ℤ dot w q) *ℤ (dot w p *ℤ dot w q) = ring (dot w p ∷ dot w q ∷ []) ((v 0 ⊗ v 0) ⊗ (v 1 ⊗ v 1)) ((v 0 ⊗ v 1) ⊗ (v 0 ⊗ v 1)) tt in
      let e2 : (square w *ℤ (square p -ℤ r *ℤ r)) *ℤ (square w *ℤ (square q -ℤ s *ℤ s)) ≡ ((square p -ℤ r *ℤ r) *ℤ (square q -ℤ s *ℤ s)) *ℤ (square w *ℤ square w) = ring (square w ∷ (square p -ℤ r *ℤ r) ∷ (square q -ℤ s *ℤ s) ∷ []) ((v 0 ⊗ v 1) ⊗ (v 0 ⊗ v 2)) ((v 1 ⊗ v 2) ⊗ (v 0 ⊗ v 0)) tt in
      let e3 : ((dot p q +ℤ r *ℤ s) *ℤ square w) *ℤ ((dot p q +ℤ r *ℤ s) *ℤ square w) ≡ ((dot p q +ℤ r *ℤ s) *ℤ (dot p q +ℤ r *ℤ s)) *ℤ (square w *ℤ square w) = ring ((dot p q +ℤ r *ℤ s) ∷ square w ∷ []) ((v 0 ⊗ v 1) ⊗ (v 0 ⊗ v 1)) ((v 0 ⊗ v 0) ⊗ (v 1 ⊗ v 1)) tt in
      let last : ((square p -ℤ r *ℤ r) *ℤ (square q -ℤ s *ℤ s)) ≤ℤ ((dot p q +ℤ r *ℤ s) *ℤ (dot p q +ℤ r *ℤ s)) = cancel_le ((square p -ℤ r *ℤ r) *ℤ (square q -ℤ s *ℤ s)) ((dot p q +ℤ r *ℤ s) *ℤ (dot p q +ℤ r *ℤ s)) (square w *ℤ square w) (positive-mul (square w) (square w) f.direction f.direction) (omega (arith, lin)) in
      let own = signed_own (dot p q +ℤ r *ℤ s) e0 in
      omega (arith, lin)

-- ---- the ray through the centre of similitude between the spheres, s p + r q
centre_square : (p q : Triple) (r s : ℤ) → square (combined s p r q) ≡ ((s *ℤ s) *ℤ square p +ℤ ((r *ℤ s) *ℤ dot p q +ℤ (r *ℤ s) *ℤ dot p q)) +ℤ (r *ℤ r) *ℤ square q
centre_square p q r s =
    let P = triple 0 in
    let Q = triple 3 in
    let R = v 6 in
    let S = v 7 in
    let centre = together S P R Q in
    ring (p.x ∷ p.y ∷ p.z ∷ q.x ∷ q.y ∷ q.z ∷ r ∷ s ∷ []) (inner centre centre) (((S ⊗ S) ⊗ inner P P ⊕ ((R ⊗ S) ⊗ inner P Q ⊕ (R ⊗ S) ⊗ inner P Q)) ⊕ (R ⊗ R) ⊗ inner Q Q) tt

centre_first : (p q : Triple) (r s : ℤ) → dot (combined s p r q) p ≡ s *ℤ square p +ℤ r *ℤ dot p q
centre_first p q r s =
    let P = triple 0 in
    let Q = triple 3 in
    ring (p.x ∷ p.y ∷ p.z ∷ q.x ∷ q.y ∷ q.z ∷ r ∷ s ∷ []) (inner (together (v 7) P (v 6) Q) P) (v 7 ⊗ inner P P ⊕ v 6 ⊗ inner P Q) tt

centre_second : (p q : Triple) (r s : ℤ) → dot (combined s p r q) q ≡ s *ℤ dot p q +ℤ r *ℤ square q
centre_second p q r s =
    let P = triple 0 in
    let Q = triple 3 in
    ring (p.x ∷ p.y ∷ p.z ∷ q.x ∷ q.y ∷ q.z ∷ r ∷ s ∷ []) (inner (together (v 7) P (v 6) Q) Q) (v 7 ⊗ inner P Q ⊕ v 6 ⊗ inner Q Q) tt

-- the same in numbers: w stands for the square of the ray, x and y for its dot products
abbrev numbers : ℤ → ℤ → ℤ → ℤ → ℤ → ℤ
numbers a b d r s = ((s *ℤ s) *ℤ a +ℤ ((r *ℤ s) *ℤ d +ℤ (r *ℤ s) *ℤ d)) +ℤ (r *ℤ r) *ℤ b

gap_is : (a b d r s : ℤ) → numbers a b d r s -ℤ (a *ℤ b -ℤ d *ℤ d) ≡ (d +ℤ r *ℤ s) *ℤ (d +ℤ r *ℤ s) -ℤ (a -ℤ r *ℤ r) *ℤ (b -ℤ s *ℤ s)
gap_is a b d r s =
    ring (a ∷ b ∷ d ∷ r ∷ s ∷ []) ((((v 4 ⊗ v 4) ⊗ v 0 ⊕ ((v 3 ⊗ v 4) ⊗ v 2 ⊕ (v 3 ⊗ v 4) ⊗ v 2)) ⊕ (v 3 ⊗ v 3) ⊗ v 1) ⊖ (v 0 ⊗ v 1 ⊖ v 2 ⊗ v 2)) ((v 2 ⊕ v 3 ⊗ v 4) ⊗ (v 2 ⊕ v 3 ⊗ v 4) ⊖ (v 0 ⊖ v 3 ⊗ v 3) ⊗ (v 1 ⊖ v 4 ⊗ v 4)) tt

first_gap : (a b d r s : ℤ) → numbers a b d r s *ℤ a -ℤ (s *ℤ a +ℤ r *ℤ d) *ℤ (s *ℤ a +ℤ r *ℤ d) ≡ (a *ℤ b -ℤ d *ℤ d) *ℤ (r *ℤ r)
first_gap a b d r s =
    ring (a ∷ b ∷ d ∷ r ∷ s ∷ []) ((((v 4 ⊗ v 4) ⊗ v 0 ⊕ ((v 3 ⊗ v 4) ⊗ v 2 ⊕ (v 3 ⊗ v 4) ⊗ v 2)) ⊕ (v 3 ⊗ v 3) ⊗ v 1) ⊗ v 0 ⊖ (v 4 ⊗ v 0 ⊕ v 3 ⊗ v 2) ⊗ (v 4 ⊗ v 0 ⊕ v 3 ⊗ v 2)) ((v 0 ⊗ v 1 ⊖ v 2 ⊗ v 2) ⊗ (v 3 ⊗ v 3)) tt

second_gap : (a b d r s : ℤ) → numbers a b d r s *ℤ b -ℤ (s *ℤ d +ℤ r *ℤ b) *ℤ (s *ℤ d +ℤ r *ℤ b) ≡ (a *ℤ b -ℤ d *ℤ d) *ℤ (s *ℤ s)
second_gap a b d r s =
    ring (a ∷ b ∷ d ∷ r ∷ s ∷ []) ((((v 4 ⊗ v 4) ⊗ v 0 ⊕ ((v 3 ⊗ v 4) ⊗ v 2 ⊕ (v 3 ⊗ v 4) ⊗ v 2)) ⊕ (v 3 ⊗ v 3) ⊗ v 1) ⊗ v 1 ⊖ (v 4 ⊗ v 2 ⊕ v 3 ⊗ v 1) ⊗ (v 4 ⊗ v 2 ⊕ v 3 ⊗ v 1)) ((v 0 ⊗ v 1 ⊖ v 2 ⊗ v 2) ⊗ (v 4 ⊗ v 4)) tt

first_is : (a d r s : ℤ) → s *ℤ a +ℤ r *ℤ d ≡ s *ℤ (a -ℤ r *ℤ r) +ℤ r *ℤ (d +ℤ r *ℤ s)
first_is a d r s =
    ring (a ∷ d ∷ r ∷ s ∷ []) (v 3 ⊗ v 0 ⊕ v 2 ⊗ v 1) (v 3 ⊗ (v 0 ⊖ v 2 ⊗ v 2) ⊕ v 2 ⊗ (v 1 ⊕ v 2 ⊗ v 3)) tt

second_is : (b d r s : ℤ) → s *ℤ d +ℤ r *ℤ b ≡ s *ℤ (d +ℤ r *ℤ s) +ℤ r *ℤ (b -ℤ s *ℤ s)
second_is b d r s =
    ring (b ∷ d ∷ r ∷ s ∷ []) (v 3 ⊗ v 1 ⊕ v 2 ⊗ v 0) (v 3 ⊗ (v 1 ⊕ v 2 ⊗ v 3) ⊕ v 2 ⊗ (v 0 ⊖ v 3 ⊗ v 3)) tt

numbers_is : (a b d r s : ℤ) → numbers a b d r s ≡ ((s *ℤ s) *ℤ (a -ℤ r *ℤ r) +ℤ ((r *ℤ s) *ℤ (d +ℤ r *ℤ s) +ℤ (r *ℤ s) *ℤ (d +ℤ r *ℤ s))) +ℤ (r *ℤ r) *ℤ (b -ℤ s *ℤ s)
numbers_is a b d r s =
    ring (a ∷ b ∷ d ∷ r ∷ s ∷ []) (((v 4 ⊗ v 4) ⊗ v 0 ⊕ ((v 3 ⊗ v 4) ⊗ v 2 ⊕ (v 3 ⊗ v 4) ⊗ v 2)) ⊕ (v 3 ⊗ v 3) ⊗ v 1) (((v 4 ⊗ v 4) ⊗ (v 0 ⊖ v 3 ⊗ v 3) ⊕ ((v 3 ⊗ v 4) ⊗ (v 2 ⊕ v 3 ⊗ v 4) ⊕ (v 3 ⊗ v 4) ⊗ (v 2 ⊕ v 3 ⊗ v 4))) ⊕ (v 3 ⊗ v 3) ⊗ (v 1 ⊖ v 4 ⊗ v 4)) tt

-- the ray's square is above 0 where one radius is
numbers_positive : (a b d r s : ℤ) → pos 0 ≤ℤ r → pos 0 ≤ℤ s → pos 0 <ℤ (r +ℤ s) → pos 0 <ℤ (a -ℤ r *ℤ r) → pos 0 <ℤ (b -ℤ s *ℤ s) → pos 0 ≤ℤ (d +ℤ r *ℤ s) → pos 0 <ℤ numbers a b d r s
numbers_positive a b d r s hr hs some ha hb he =
    let e = numbers_is a b d r s in
    let x : pos 0 ≤ℤ ((s *ℤ s) *ℤ (a -ℤ r *ℤ r)) = nonneg-mul (s *ℤ s) (a -ℤ r *ℤ r) (nonneg-square s) (omega (arith, lin)) in
    let y : pos 0 ≤ℤ ((r *ℤ s) *ℤ (d +ℤ r *ℤ s)) = nonneg-mul (r *ℤ s) (d +ℤ r *ℤ s) (nonneg-mul r s hr hs) he in
    let z : pos 0 ≤ℤ ((r *ℤ r) *ℤ (b -ℤ s *ℤ s)) = nonneg-mul (r *ℤ r) (b -ℤ s *ℤ s) (nonneg-square r) (omega (arith, lin)) in
    by_lt_z (pos 0) s (λ h. let g : pos 0 <ℤ ((s *ℤ s) *ℤ (a -ℤ r *ℤ r)) = positive-mul (s *ℤ s) (a -ℤ r *ℤ r) (positive-mul s s h h) ha in omega (arith, lin)) (λ h. let r0 : pos 0 <ℤ r = omega (arith, lin) in let g : pos 0 <ℤ ((r *ℤ r) *ℤ (b -ℤ s *ℤ s)) = positive-mul (r *ℤ r) (b -ℤ s *ℤ s) (positive-mul r r r0 r0) hb in omega (arith, lin))

module _ (p q : Triple) (r s : ℤ) (front : IsSphere p r) (back : IsSphere q s) (e0 : pos 0 ≤ℤ (dot p q +ℤ r *ℤ s)) (h : ((square p -ℤ r *ℤ r) *ℤ (square q -ℤ s *ℤ s)) ≤ℤ ((dot p q +ℤ r *ℤ s) *ℤ (dot p q +ℤ r *ℤ s))) where
  -- A B - D^2 is at most the square of s p + r q
  within : (square p *ℤ square q -ℤ dot p q *ℤ dot p q) ≤ℤ numbers (square p) (square q) (dot p q) r s
  within = let g = gap_is (square p) (square q) (dot p q) r s in omega (arith, lin)

  through_centre : pos 0 <ℤ (r +ℤ s) → SomeRayMeetsBoth p r q s
  through_centre some =
      let gp : pos 0 <ℤ (square p -ℤ r *ℤ r) = omega (arith, lin, front.outside) in
      let gq : pos 0 <ℤ (square q -ℤ s *ℤ s) = omega (arith, lin, back.outside) in
      let ew = centre_square p q r s in
      let ex = centre_first p q r s in
      let ey = centre_second p q r s in
      let w0 : pos 0 <ℤ numbers (square p) (square q) (dot p q) r s = numbers_positive (square p) (square q) (dot p q) r s front.radius back.radius some gp gq e0 in
      let fx = first_is (square p) (dot p q) r s in
      let fy = second_is (square q) (dot p q) r s in
      let x1 : pos 0 ≤ℤ (s *ℤ (square p -ℤ r *ℤ r)) = nonneg-mul s (square p -ℤ r *ℤ r) back.radius (omega (arith, lin)) in
      let x2 : pos 0 ≤ℤ (r *ℤ (dot p q +ℤ r *ℤ s)) = nonneg-mul r (dot p q +ℤ r *ℤ s) front.radius e0 in
      let y1 : pos 0 ≤ℤ (s *ℤ (dot p q +ℤ r *ℤ s)) = nonneg-mul s (dot p q +ℤ r *ℤ s) back.radius e0 in
      let y2 : pos 0 ≤ℤ (r *ℤ (square q -ℤ s *ℤ s)) = nonneg-mul r (square q -ℤ s *ℤ s) front.radius (omega (arith, lin)) in
      let cx : ((square p *ℤ square q -ℤ dot p q *ℤ dot p q) *ℤ (r *ℤ r)) ≤ℤ (numbers (square p) (square q) (dot p q) r s *ℤ (r *ℤ r)) = le-mul (square p *ℤ square q -ℤ dot p q *ℤ dot p q) (numbers (square p) (square q) (dot p q) r s) (r *ℤ r) (nonneg-square r) within in
      let cy : ((square p *ℤ square q -ℤ dot p q *ℤ dot p q) *ℤ (s *ℤ s)) ≤ℤ (numbers (square p) (square q) (dot p q) r s *ℤ (s *ℤ s)) = le-mul (square p *ℤ square q -ℤ dot p q *ℤ dot p q) (numbers (square p) (square q) (dot p q) r s) (s *ℤ s) (nonneg-square s) within in
      let dx : (numbers (square p) (square q) (dot p q) r s *ℤ square p -ℤ (s *ℤ square p +ℤ r *ℤ dot p q) *ℤ (s *ℤ square p +ℤ r *ℤ dot p q)) ≤ℤ (numbers (square p) (square q) (dot p q) r s *ℤ (r *ℤ r)) = rw (first_gap (square p) (square q) (dot p q) r s) cx in
      let dy : (numbers (square p) (square q) (dot p q) r s *ℤ square q -ℤ (s *ℤ dot p q +ℤ r *ℤ square q) *ℤ (s *ℤ dot p q +ℤ r *ℤ square q)) ≤ℤ (numbers (square p) (square q) (dot p q) r s *ℤ (s *ℤ s)) = rw (second_gap (square p) (square q) (dot p q) r s) cy in
      record { ray = combined s p r q; first = meets (combined s p r q) p r (rw ew w0) (rw (ex ∙ fx) (omega (arith, lin))) (rw (ew, ex) dx); second = meets (combined s p r q) q s (rw ew w0) (rw (ey ∙ fy) (omega (arith, lin))) (rw (ew, ey) dy) }

  -- without radii: the ray towards p
  through_first : r ≡ pos 0 → s ≡ pos 0 → SomeRayMeetsBoth p r q s
  through_first er es =
      let a0 : pos 0 <ℤ square p = let n : pos 0 ≤ℤ (r *ℤ r) = nonneg-square r in omega (arith, lin, front.outside) in
      let rs : r *ℤ s ≡ pos 0 = ap (λ z. z *ℤ s) er ∙ ring (s ∷ []) (lit (pos 0) ⊗ v 0) (lit (pos 0)) tt in
      let n : numbers (square p) (square q) (dot p q) r s ≡ pos 0 = ap (λ z. numbers (square p) (square q) (dot p q) z s) er ∙ (ap (λ z. numbers (square p) (square q) (dot p q) (pos 0) z) es ∙ ring (square p ∷ square q ∷ dot p q ∷ []) (((lit (pos 0) ⊗ lit (pos 0)) ⊗ v 0 ⊕ ((lit (pos 0) ⊗ lit (pos 0)) ⊗ v 2 ⊕ (lit (pos 0) ⊗ lit (pos 0)) ⊗ v 2)) ⊕ (lit (pos 0) ⊗ lit (pos 0)) ⊗ v 1) (lit (pos 0)) tt) in
      let wi = within in
      let ar : pos 0 ≤ℤ (square p *ℤ (r *ℤ r)) = nonneg-mul (square p) (r *ℤ r) (square_low p) (nonneg-square r) in
      let at : pos 0 ≤ℤ (square p *ℤ (s *ℤ s)) = nonneg-mul (square p) (s *ℤ s) (square_low p) (nonneg-square s) in
      record { ray = p; first = meets p p r a0 (square_low p) (omega (arith, lin)); second = meets p q s a0 (omega (arith, lin)) (omega (arith, lin)) }

  some_ray : SomeRayMeetsBoth p r q s
  some_ray =
      by_lt_z (pos 0) (r +ℤ s) through_centre (λ small. let a : pos 0 ≤ℤ r = front.radius in let b : pos 0 ≤ℤ s = back.radius in through_first (omega (arith, lin)) (omega (arith, lin)))

pub overlapping : (p q : Triple) (r s : ℤ) → IsSphere p r → IsSphere q s → pos 0 ≤ℤ (signed_sq (dot p q +ℤ r *ℤ s) -ℤ (square p -ℤ r *ℤ r) *ℤ (square q -ℤ s *ℤ s)) → SomeRayMeetsBoth p r q s
overlapping p q r s front back h =
    let gp : pos 0 <ℤ (square p -ℤ r *ℤ r) = omega (arith, lin, front.outside) in
    let gq : pos 0 <ℤ (square q -ℤ s *ℤ s) = omega (arith, lin, back.outside) in
    let g = root_low (dot p q +ℤ r *ℤ s) ((square p -ℤ r *ℤ r) *ℤ (square q -ℤ s *ℤ s)) (positive-mul (square p -ℤ r *ℤ r) (square q -ℤ s *ℤ s) gp gq) (omega (arith, lin)) in
    some_ray p q r s front back g.0 g.1

pub overlap_is_low : (p q : Triple) (r s : ℤ) → IsSphere p r → IsSphere q s → SomeRayMeetsBoth p r q s → pos 0 ≤ℤ (signed_sq (dot p q +ℤ r *ℤ s) -ℤ (square p -ℤ r *ℤ r) *ℤ (square q -ℤ s *ℤ s))
overlap_is_low p q r s front back h =
    overlap_low h.ray p q r s front back (towards h.ray p r front h.first) (towards h.ray q s back h.second)
