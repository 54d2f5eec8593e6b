-- Where each ray that meets the sphere round q meets that round p, the function of covered discs is at least 0 and the disc
-- of the first is no smaller. The ray at the edge of the second disc, away from the first one's centre, has no whole
-- numbers; so one ray is taken that lies near it, and inside the disc: m q - n p with m = s k D + t and n = s k B, for a
-- large k and the least t whose square is above k^2 G B'. Here A and B are the squares of p and q, D their dot product,
-- G = A B - D^2, A' = A - r^2 and B' = B - s^2.
use Rattle.std.proofs.Common.{◌≡◌, arith, ap, sym, ◌∙◌, [], ◌∷◌, ℤ, pos, ◌+ℤ◌, ◌-ℤ◌, ◌*ℤ◌, neg_ℤ, ◌≤ℤ◌, ◌<ℤ◌}
use Rattle.std.proofs.lemmas.Int.{by_lt_z}
use Rattle.spec_numbers.proofs.Ring.{Poly, v, k as lit, ◌⊕◌, ◌⊖◌, ◌⊗◌, minus, ring}
use Rattle.spec_numbers.proofs.Order.{lin, le-mul, nonneg-square}
use Rattle.spec_numbers.proofs.Whole.{nonneg-mul}
use Rattle.spec_intervals.specs.Interval.{signed_sq}
use Rattle.spec_chebyshev.proofs.Polynomials.{le_from_squares}
use Rattle.spec_meanings.specs.Space.{Triple, dot, square}
use Rattle.spec_meanings.specs.Rays.{combined, IsSphere, Meets, Covers}
use Rattle.spec_meanings.specs.Angles.{IsNoSmaller}
use Rattle.spec_meanings.proofs.Cancel.{positive-mul, cancel_le, cancel_low, cancel_zero, le-products, square_none}
use Rattle.spec_meanings.proofs.Overlaps.{signed_own}
use Rattle.spec_meanings.proofs.Rays.{IsTowards, cauchy, distance, towards, meets_close}
use Rattle.spec_meanings.proofs.Roots.{IsRootAbove, root_above, just_above, in_the_limit}

-- ---- in numbers: what one ray near the edge tells. b is B, c is B', g is G
-- from the front: s^2 G <= D^2 B'
pub ahead_of_edge : (d s g c k t : ℤ) → pos 0 <ℤ g → pos 0 <ℤ c → pos 0 ≤ℤ s → pos 0 <ℤ k → IsRootAbove ((k *ℤ k) *ℤ (g *ℤ c)) t → (((g *ℤ c) *ℤ (d *ℤ d) +ℤ (g *ℤ c) *ℤ (d *ℤ d)) +ℤ ((g *ℤ c) *ℤ (d *ℤ d) +ℤ (g *ℤ c) *ℤ (d *ℤ d))) <ℤ k → ((s *ℤ k) *ℤ g) ≤ℤ (t *ℤ d) → ((s *ℤ s) *ℤ g) ≤ℤ ((d *ℤ d) *ℤ c)
ahead_of_edge d s g c k t g0 c0 s0 k0 root big ahead =
    let skg : pos 0 ≤ℤ ((s *ℤ k) *ℤ g) = nonneg-mul (s *ℤ k) g (nonneg-mul s k s0 (omega (arith, lin))) (omega (arith, lin)) in
    let sq : (((s *ℤ k) *ℤ g) *ℤ ((s *ℤ k) *ℤ g)) ≤ℤ ((t *ℤ d) *ℤ (t *ℤ d)) = le-products ((s *ℤ k) *ℤ g) (t *ℤ d) ((s *ℤ k) *ℤ g) (t *ℤ d) (omega (arith, lin)) skg ahead ahead in
    let l : ((s *ℤ k) *ℤ g) *ℤ ((s *ℤ k) *ℤ g) ≡ (((s *ℤ s) *ℤ g) *ℤ g) *ℤ (k *ℤ k) = ring (s ∷ k ∷ g ∷ []) (((v 0 ⊗ v 1) ⊗ v 2) ⊗ ((v 0 ⊗ v 1) ⊗ v 2)) ((((v 0 ⊗ v 0) ⊗ v 2) ⊗ v 2) ⊗ (v 1 ⊗ v 1)) tt in
    let h : (t *ℤ d) *ℤ (t *ℤ d) ≡ (t *ℤ t) *ℤ (d *ℤ d) = ring (t ∷ d ∷ []) ((v 0 ⊗ v 1) ⊗ (v 0 ⊗ v 1)) ((v 0 ⊗ v 0) ⊗ (v 1 ⊗ v 1)) tt in
    let q : (((s *ℤ s) *ℤ g) *ℤ g) ≤ℤ ((g *ℤ c) *ℤ (d *ℤ d)) = in_the_limit (((s *ℤ s) *ℤ g) *ℤ g) (d *ℤ d) (g *ℤ c) k t (nonneg-square d) (positive-mul g c g0 c0) k0 root (omega (arith, lin)) big in
    let e : (g *ℤ c) *ℤ (d *ℤ d) ≡ ((d *ℤ d) *ℤ c) *ℤ g = ring (g ∷ c ∷ d ∷ []) ((v 0 ⊗ v 1) ⊗ (v 2 ⊗ v 2)) (((v 2 ⊗ v 2) ⊗ v 1) ⊗ v 0) tt in
    cancel_le ((s *ℤ s) *ℤ g) ((d *ℤ d) *ℤ c) g g0 (omega (arith, lin))

-- from the cone: with z = r B - s D, 0 <= z and G B' <= z^2. The bound f is 2 r^2 B
module _ (d r s g c b k t : ℤ) (eb : b ≡ c +ℤ s *ℤ s) (g0 : pos 0 <ℤ g) (c0 : pos 0 <ℤ c) (r0 : pos 0 ≤ℤ r) (s0 : pos 0 ≤ℤ s) (d0 : pos 0 ≤ℤ d) (k0 : pos 0 <ℤ k) (root : IsRootAbove ((k *ℤ k) *ℤ (g *ℤ c)) t) (close : ((((s *ℤ k) *ℤ d +ℤ t) *ℤ ((s *ℤ k) *ℤ d +ℤ t)) *ℤ g) ≤ℤ ((r *ℤ r) *ℤ (b *ℤ (t *ℤ t) +ℤ ((s *ℤ s) *ℤ (k *ℤ k)) *ℤ (b *ℤ g)))) where
  abbrev y : ℤ
  y = (s *ℤ k) *ℤ d +ℤ t

  abbrev x : ℤ
  x = (r *ℤ b) *ℤ k

  abbrev f : ℤ
  f = (r *ℤ r) *ℤ b +ℤ (r *ℤ r) *ℤ b

  b_low : pos 0 <ℤ b
  b_low = let n : pos 0 ≤ℤ (s *ℤ s) = nonneg-square s in omega (arith, lin)

  rrb_low : pos 0 ≤ℤ ((r *ℤ r) *ℤ b)
  rrb_low = nonneg-mul (r *ℤ r) b (nonneg-square r) (omega (arith, lin, b_low))

  skd_low : pos 0 ≤ℤ ((s *ℤ k) *ℤ d)
  skd_low = nonneg-mul (s *ℤ k) d (nonneg-mul s k s0 (omega (arith, lin))) d0

  x_low : pos 0 ≤ℤ ((r *ℤ b) *ℤ k)
  x_low = nonneg-mul (r *ℤ b) k (nonneg-mul r b r0 (omega (arith, lin, b_low))) (omega (arith, lin))

  -- G (y^2 - x^2) <= f y
  products : (g *ℤ (((s *ℤ k) *ℤ d +ℤ t) *ℤ ((s *ℤ k) *ℤ d +ℤ t) -ℤ ((r *ℤ b) *ℤ k) *ℤ ((r *ℤ b) *ℤ k))) ≤ℤ (((r *ℤ r) *ℤ b +ℤ (r *ℤ r) *ℤ b) *ℤ ((s *ℤ k) *ℤ d +ℤ t))
  products =
      let n = rrb_low in
      let i : (r *ℤ r) *ℤ (b *ℤ (t *ℤ t) +ℤ ((s *ℤ s) *ℤ (k *ℤ k)) *ℤ (b *ℤ g)) -ℤ g *ℤ (((r *ℤ b) *ℤ k) *ℤ ((r *ℤ b) *ℤ k)) ≡ ((r *ℤ r) *ℤ b) *ℤ (t *ℤ t -ℤ (k *ℤ k) *ℤ (g *ℤ c)) = ap (λ z. (r *ℤ r) *ℤ (b *ℤ (t *ℤ t) +ℤ ((s *ℤ s) *ℤ (k *ℤ k)) *ℤ (b *ℤ g)) -ℤ g *ℤ (((r *ℤ b) *ℤ k) *ℤ ((r *ℤ z) *ℤ k))) eb ∙ ring (r ∷ b ∷ t ∷ s ∷ k ∷ g ∷ c ∷ []) ((v 0 ⊗ v 0) ⊗ (v 1 ⊗ (v 2 ⊗ v 2) ⊕ ((v 3 ⊗ v 3) ⊗ (v 4 ⊗ v 4)) ⊗ (v 1 ⊗ v 5)) ⊖ v 5 ⊗ (((v 0 ⊗ v 1) ⊗ v 4) ⊗ ((v 0 ⊗ (v 6 ⊕ v 3 ⊗ v 3)) ⊗ v 4))) (((v 0 ⊗ v 0) ⊗ v 1) ⊗ (v 2 ⊗ v 2 ⊖ (v 4 ⊗ v 4) ⊗ (v 5 ⊗ v 6))) tt in
      let j : g *ℤ (((s *ℤ k) *ℤ d +ℤ t) *ℤ ((s *ℤ k) *ℤ d +ℤ t) -ℤ ((r *ℤ b) *ℤ k) *ℤ ((r *ℤ b) *ℤ k)) ≡ (((s *ℤ k) *ℤ d +ℤ t) *ℤ ((s *ℤ k) *ℤ d +ℤ t)) *ℤ g -ℤ g *ℤ (((r *ℤ b) *ℤ k) *ℤ ((r *ℤ b) *ℤ k)) = ring (g ∷ ((s *ℤ k) *ℤ d +ℤ t) ∷ ((r *ℤ b) *ℤ k) ∷ []) (v 0 ⊗ (v 1 ⊗ v 1 ⊖ v 2 ⊗ v 2)) ((v 1 ⊗ v 1) ⊗ v 0 ⊖ v 0 ⊗ (v 2 ⊗ v 2)) tt in
      let u = just_above ((k *ℤ k) *ℤ (g *ℤ c)) t root in
      let l : ((t *ℤ t -ℤ (k *ℤ k) *ℤ (g *ℤ c)) *ℤ ((r *ℤ r) *ℤ b)) ≤ℤ ((t +ℤ t) *ℤ ((r *ℤ r) *ℤ b)) = le-mul (t *ℤ t -ℤ (k *ℤ k) *ℤ (g *ℤ c)) (t +ℤ t) ((r *ℤ r) *ℤ b) n (omega (arith, lin)) in
      let le : (t *ℤ t -ℤ (k *ℤ k) *ℤ (g *ℤ c)) *ℤ ((r *ℤ r) *ℤ b) ≡ ((r *ℤ r) *ℤ b) *ℤ (t *ℤ t -ℤ (k *ℤ k) *ℤ (g *ℤ c)) = ring ((t *ℤ t -ℤ (k *ℤ k) *ℤ (g *ℤ c)) ∷ ((r *ℤ r) *ℤ b) ∷ []) (v 0 ⊗ v 1) (v 1 ⊗ v 0) tt in
      let m : (t *ℤ ((r *ℤ r) *ℤ b +ℤ (r *ℤ r) *ℤ b)) ≤ℤ (((s *ℤ k) *ℤ d +ℤ t) *ℤ ((r *ℤ r) *ℤ b +ℤ (r *ℤ r) *ℤ b)) = le-mul t ((s *ℤ k) *ℤ d +ℤ t) ((r *ℤ r) *ℤ b +ℤ (r *ℤ r) *ℤ b) (omega (arith, lin)) (omega (arith, lin, skd_low)) in
      let me : t *ℤ ((r *ℤ r) *ℤ b +ℤ (r *ℤ r) *ℤ b) ≡ (t +ℤ t) *ℤ ((r *ℤ r) *ℤ b) = ring (t ∷ ((r *ℤ r) *ℤ b) ∷ []) (v 0 ⊗ (v 1 ⊕ v 1)) ((v 0 ⊕ v 0) ⊗ v 1) tt in
      let mf : ((s *ℤ k) *ℤ d +ℤ t) *ℤ ((r *ℤ r) *ℤ b +ℤ (r *ℤ r) *ℤ b) ≡ ((r *ℤ r) *ℤ b +ℤ (r *ℤ r) *ℤ b) *ℤ ((s *ℤ k) *ℤ d +ℤ t) = ring (((s *ℤ k) *ℤ d +ℤ t) ∷ ((r *ℤ r) *ℤ b +ℤ (r *ℤ r) *ℤ b) ∷ []) (v 0 ⊗ v 1) (v 1 ⊗ v 0) tt in
      omega (arith, lin)

  -- y <= x + f
  sides : ((s *ℤ k) *ℤ d +ℤ t) ≤ℤ ((r *ℤ b) *ℤ k +ℤ ((r *ℤ r) *ℤ b +ℤ (r *ℤ r) *ℤ b))
  sides =
      by_lt_z ((r *ℤ b) *ℤ k +ℤ ((r *ℤ r) *ℤ b +ℤ (r *ℤ r) *ℤ b)) ((s *ℤ k) *ℤ d +ℤ t) (λ far. absurd (against far)) (λ h. h)
    where
      against : ((r *ℤ b) *ℤ k +ℤ ((r *ℤ r) *ℤ b +ℤ (r *ℤ r) *ℤ b)) <ℤ ((s *ℤ k) *ℤ d +ℤ t) → ⊥
      against far =
          let p = products in
          let n = rrb_low in
          let xl = x_low in
          let tp : pos 0 <ℤ t = root.positive in
          let yl : pos 0 <ℤ ((s *ℤ k) *ℤ d +ℤ t) = omega (arith, lin, skd_low) in
          let Y = (s *ℤ k) *ℤ d +ℤ t in
          let X = (r *ℤ b) *ℤ k in
          let F = (r *ℤ r) *ℤ b +ℤ (r *ℤ r) *ℤ b in
          -- (f + 1) y <= (y - x) (y + x)
          let one : ((F +ℤ pos 1) *ℤ Y) ≤ℤ ((Y -ℤ X) *ℤ (Y +ℤ X)) = le-products (F +ℤ pos 1) (Y -ℤ X) Y (Y +ℤ X) (omega (arith, lin)) (omega (arith, lin)) (omega (arith, lin)) (omega (arith, lin)) in
          let oe : (F +ℤ pos 1) *ℤ Y ≡ F *ℤ Y +ℤ Y = ring (F ∷ Y ∷ []) ((v 0 ⊕ lit (pos 1)) ⊗ v 1) (v 0 ⊗ v 1 ⊕ v 1) tt in
          let de : (Y -ℤ X) *ℤ (Y +ℤ X) ≡ Y *ℤ Y -ℤ X *ℤ X = ring (Y ∷ X ∷ []) ((v 0 ⊖ v 1) ⊗ (v 0 ⊕ v 1)) (v 0 ⊗ v 0 ⊖ v 1 ⊗ v 1) tt in
          let fy : pos 0 ≤ℤ (F *ℤ Y) = nonneg-mul F Y (omega (arith, lin)) (omega (arith, lin)) in
          let two : (pos 1 *ℤ (Y *ℤ Y -ℤ X *ℤ X)) ≤ℤ (g *ℤ (Y *ℤ Y -ℤ X *ℤ X)) = le-mul (pos 1) g (Y *ℤ Y -ℤ X *ℤ X) (omega (arith, lin)) (omega (arith, lin)) in
          let te : pos 1 *ℤ (Y *ℤ Y -ℤ X *ℤ X) ≡ Y *ℤ Y -ℤ X *ℤ X = ring ((Y *ℤ Y -ℤ X *ℤ X) ∷ []) (lit (pos 1) ⊗ v 0) (v 0) tt in
          omega (arith, lin)

  -- t <= k z + f
  root_near : t ≤ℤ (k *ℤ (r *ℤ b -ℤ s *ℤ d) +ℤ ((r *ℤ r) *ℤ b +ℤ (r *ℤ r) *ℤ b))
  root_near =
      let a = sides in
      let e : k *ℤ (r *ℤ b -ℤ s *ℤ d) ≡ (r *ℤ b) *ℤ k -ℤ (s *ℤ k) *ℤ d = ring (k ∷ r ∷ b ∷ s ∷ d ∷ []) (v 0 ⊗ (v 1 ⊗ v 2 ⊖ v 3 ⊗ v 4)) ((v 1 ⊗ v 2) ⊗ v 0 ⊖ (v 3 ⊗ v 0) ⊗ v 4) tt in
      omega (arith, lin)

  module _ (big : ((((r *ℤ b) *ℤ ((r *ℤ r) *ℤ b +ℤ (r *ℤ r) *ℤ b) +ℤ (r *ℤ b) *ℤ ((r *ℤ r) *ℤ b +ℤ (r *ℤ r) *ℤ b)) +ℤ ((r *ℤ r) *ℤ b +ℤ (r *ℤ r) *ℤ b) *ℤ ((r *ℤ r) *ℤ b +ℤ (r *ℤ r) *ℤ b)) +ℤ ((r *ℤ r) *ℤ b +ℤ (r *ℤ r) *ℤ b)) <ℤ k) where
    F_low : pos 0 ≤ℤ ((r *ℤ r) *ℤ b +ℤ (r *ℤ r) *ℤ b)
    F_low = omega (arith, lin, rrb_low)

    rbF_low : pos 0 ≤ℤ ((r *ℤ b) *ℤ ((r *ℤ r) *ℤ b +ℤ (r *ℤ r) *ℤ b))
    rbF_low = nonneg-mul (r *ℤ b) ((r *ℤ r) *ℤ b +ℤ (r *ℤ r) *ℤ b) (nonneg-mul r b r0 (omega (arith, lin, b_low))) F_low

    pub side_low : pos 0 ≤ℤ (r *ℤ b -ℤ s *ℤ d)
    side_low =
        by_lt_z (r *ℤ b -ℤ s *ℤ d) (pos 0) (λ below. absurd (against below)) (λ h. h)
      where
        against : (r *ℤ b -ℤ s *ℤ d) <ℤ pos 0 → ⊥
        against below =
            let n = root_near in
            let p : pos 0 <ℤ t = root.positive in
            let ff : pos 0 ≤ℤ (((r *ℤ r) *ℤ b +ℤ (r *ℤ r) *ℤ b) *ℤ ((r *ℤ r) *ℤ b +ℤ (r *ℤ r) *ℤ b)) = nonneg-square ((r *ℤ r) *ℤ b +ℤ (r *ℤ r) *ℤ b) in
            let h = rbF_low in
            let l : ((r *ℤ b -ℤ s *ℤ d) *ℤ k) ≤ℤ (neg_ℤ (pos 1) *ℤ k) = le-mul (r *ℤ b -ℤ s *ℤ d) (neg_ℤ (pos 1)) k (omega (arith, lin)) (omega (arith, lin)) in
            let e : neg_ℤ (pos 1) *ℤ k ≡ neg_ℤ k = ring (k ∷ []) (minus (lit (pos 1)) ⊗ v 0) (minus (v 0)) tt in
            let c2 : (r *ℤ b -ℤ s *ℤ d) *ℤ k ≡ k *ℤ (r *ℤ b -ℤ s *ℤ d) = ring ((r *ℤ b -ℤ s *ℤ d) ∷ k ∷ []) (v 0 ⊗ v 1) (v 1 ⊗ v 0) tt in
            omega (arith, lin)

    pub side_square : (g *ℤ c) ≤ℤ ((r *ℤ b -ℤ s *ℤ d) *ℤ (r *ℤ b -ℤ s *ℤ d))
    side_square =
        by_lt_z ((r *ℤ b -ℤ s *ℤ d) *ℤ (r *ℤ b -ℤ s *ℤ d)) (g *ℤ c) (λ below. absurd (against below)) (λ h. h)
      where
        against : ((r *ℤ b -ℤ s *ℤ d) *ℤ (r *ℤ b -ℤ s *ℤ d)) <ℤ (g *ℤ c) → ⊥
        against below =
            let n = root_near in
            let zl = side_low in
            let h = rbF_low in
            let fl = F_low in
            let p : pos 0 <ℤ t = root.positive in
            let a : ((k *ℤ k) *ℤ (g *ℤ c)) <ℤ (t *ℤ t) = root.above in
            let Z = r *ℤ b -ℤ s *ℤ d in
            let F = (r *ℤ r) *ℤ b +ℤ (r *ℤ r) *ℤ b in
            let RB = r *ℤ b in
            -- k^2 (z^2 + 1) <= k^2 G B' < t^2 <= (k z + f)^2
            let kk : pos 0 ≤ℤ (k *ℤ k) = nonneg-square k in
            let l : ((Z *ℤ Z +ℤ pos 1) *ℤ (k *ℤ k)) ≤ℤ ((g *ℤ c) *ℤ (k *ℤ k)) = le-mul (Z *ℤ Z +ℤ pos 1) (g *ℤ c) (k *ℤ k) kk (omega (arith, lin)) in
            let le : (Z *ℤ Z +ℤ pos 1) *ℤ (k *ℤ k) ≡ (k *ℤ Z) *ℤ (k *ℤ Z) +ℤ k *ℤ k = ring (Z ∷ k ∷ []) ((v 0 ⊗ v 0 ⊕ lit (pos 1)) ⊗ (v 1 ⊗ v 1)) ((v 1 ⊗ v 0) ⊗ (v 1 ⊗ v 0) ⊕ v 1 ⊗ v 1) tt in
            let ge : (g *ℤ c) *ℤ (k *ℤ k) ≡ (k *ℤ k) *ℤ (g *ℤ c) = ring ((g *ℤ c) ∷ (k *ℤ k) ∷ []) (v 0 ⊗ v 1) (v 1 ⊗ v 0) tt in
            let tt2 : (t *ℤ t) ≤ℤ ((k *ℤ Z +ℤ F) *ℤ (k *ℤ Z +ℤ F)) = le-products t (k *ℤ Z +ℤ F) t (k *ℤ Z +ℤ F) (omega (arith, lin)) (omega (arith, lin)) n n in
            let se : (k *ℤ Z +ℤ F) *ℤ (k *ℤ Z +ℤ F) ≡ (k *ℤ Z) *ℤ (k *ℤ Z) +ℤ (((Z *ℤ F) *ℤ k +ℤ (Z *ℤ F) *ℤ k) +ℤ F *ℤ F) = ring (k ∷ Z ∷ F ∷ []) ((v 0 ⊗ v 1 ⊕ v 2) ⊗ (v 0 ⊗ v 1 ⊕ v 2)) ((v 0 ⊗ v 1) ⊗ (v 0 ⊗ v 1) ⊕ (((v 1 ⊗ v 2) ⊗ v 0 ⊕ (v 1 ⊗ v 2) ⊗ v 0) ⊕ v 2 ⊗ v 2)) tt in
            -- z <= r B
            let sd : pos 0 ≤ℤ (s *ℤ d) = nonneg-mul s d s0 d0 in
            let zf : (Z *ℤ F) ≤ℤ (RB *ℤ F) = le-mul Z RB F fl (omega (arith, lin)) in
            let zfk : ((Z *ℤ F) *ℤ k) ≤ℤ ((RB *ℤ F) *ℤ k) = le-mul (Z *ℤ F) (RB *ℤ F) k (omega (arith, lin)) zf in
            -- k (2 r B f + f^2 + f + 1) <= k^2
            let ff : pos 0 ≤ℤ (F *ℤ F) = nonneg-square F in
            let w : (((RB *ℤ F +ℤ RB *ℤ F) +ℤ F *ℤ F) *ℤ k) ≤ℤ (k *ℤ k) = le-mul ((RB *ℤ F +ℤ RB *ℤ F) +ℤ F *ℤ F) k k (omega (arith, lin)) (omega (arith, lin)) in
            let we : ((RB *ℤ F +ℤ RB *ℤ F) +ℤ F *ℤ F) *ℤ k ≡ ((RB *ℤ F) *ℤ k +ℤ (RB *ℤ F) *ℤ k) +ℤ (F *ℤ F) *ℤ k = ring (RB ∷ F ∷ k ∷ []) (((v 0 ⊗ v 1 ⊕ v 0 ⊗ v 1) ⊕ v 1 ⊗ v 1) ⊗ v 2) (((v 0 ⊗ v 1) ⊗ v 2 ⊕ (v 0 ⊗ v 1) ⊗ v 2) ⊕ (v 1 ⊗ v 1) ⊗ v 2) tt in
            let kf : (pos 1 *ℤ (F *ℤ F)) ≤ℤ (k *ℤ (F *ℤ F)) = le-mul (pos 1) k (F *ℤ F) ff (omega (arith, lin)) in
            let ke : k *ℤ (F *ℤ F) ≡ (F *ℤ F) *ℤ k = ring (k ∷ F ∷ []) (v 0 ⊗ (v 1 ⊗ v 1)) ((v 1 ⊗ v 1) ⊗ v 0) tt in
            let ko : pos 1 *ℤ (F *ℤ F) ≡ F *ℤ F = ring ((F *ℤ F) ∷ []) (lit (pos 1) ⊗ v 0) (v 0) tt in
            omega (arith, lin)

-- ---- in numbers: what follows. a is A
module _ (a b d r s : ℤ) (r0 : pos 0 ≤ℤ r) (s0 : pos 0 ≤ℤ s) (d0 : pos 0 ≤ℤ d) (a_far : (r *ℤ r) <ℤ a) (b_far : (s *ℤ s) <ℤ b) where
  b_above : pos 0 <ℤ b
  b_above = let n : pos 0 ≤ℤ (s *ℤ s) = nonneg-square s in omega (arith, lin)

  -- r s <= D from s^2 A <= D^2
  pub ahead_low : ((s *ℤ s) *ℤ a) ≤ℤ (d *ℤ d) → pos 0 ≤ℤ (d -ℤ r *ℤ s)
  ahead_low h =
      let l : ((r *ℤ r) *ℤ (s *ℤ s)) ≤ℤ (a *ℤ (s *ℤ s)) = le-mul (r *ℤ r) a (s *ℤ s) (nonneg-square s) (omega (arith, lin)) in
      let e : a *ℤ (s *ℤ s) ≡ (s *ℤ s) *ℤ a = ring (a ∷ s ∷ []) (v 0 ⊗ (v 1 ⊗ v 1)) ((v 1 ⊗ v 1) ⊗ v 0) tt in
      let f : (r *ℤ r) *ℤ (s *ℤ s) ≡ (r *ℤ s) *ℤ (r *ℤ s) = ring (r ∷ s ∷ []) ((v 0 ⊗ v 0) ⊗ (v 1 ⊗ v 1)) ((v 0 ⊗ v 1) ⊗ (v 0 ⊗ v 1)) tt in
      let q : (r *ℤ s) ≤ℤ d = le_from_squares (r *ℤ s) d d0 (omega (arith, lin)) in
      omega (arith, lin)

  -- A' B' <= E^2 from G B' <= z^2
  pub inside_low : ((a *ℤ b -ℤ d *ℤ d) *ℤ (b -ℤ s *ℤ s)) ≤ℤ ((r *ℤ b -ℤ s *ℤ d) *ℤ (r *ℤ b -ℤ s *ℤ d)) → ((a -ℤ r *ℤ r) *ℤ (b -ℤ s *ℤ s)) ≤ℤ ((d -ℤ r *ℤ s) *ℤ (d -ℤ r *ℤ s))
  inside_low h =
      let e : ((d -ℤ r *ℤ s) *ℤ (d -ℤ r *ℤ s) -ℤ (a -ℤ r *ℤ r) *ℤ (b -ℤ s *ℤ s)) *ℤ b ≡ (r *ℤ b -ℤ s *ℤ d) *ℤ (r *ℤ b -ℤ s *ℤ d) -ℤ (a *ℤ b -ℤ d *ℤ d) *ℤ (b -ℤ s *ℤ s) = ring (a ∷ b ∷ d ∷ r ∷ s ∷ []) (((v 2 ⊖ v 3 ⊗ v 4) ⊗ (v 2 ⊖ v 3 ⊗ v 4) ⊖ (v 0 ⊖ v 3 ⊗ v 3) ⊗ (v 1 ⊖ v 4 ⊗ v 4)) ⊗ v 1) ((v 3 ⊗ v 1 ⊖ v 4 ⊗ v 2) ⊗ (v 3 ⊗ v 1 ⊖ v 4 ⊗ v 2) ⊖ (v 0 ⊗ v 1 ⊖ v 2 ⊗ v 2) ⊗ (v 1 ⊖ v 4 ⊗ v 4)) tt in
      let l = cancel_low ((d -ℤ r *ℤ s) *ℤ (d -ℤ r *ℤ s) -ℤ (a -ℤ r *ℤ r) *ℤ (b -ℤ s *ℤ s)) b b_above (omega (arith, lin)) in
      omega (arith, lin)

  -- s^2 A <= D^2 from s^2 G <= D^2 B'
  pub square_high : ((s *ℤ s) *ℤ (a *ℤ b -ℤ d *ℤ d)) ≤ℤ ((d *ℤ d) *ℤ (b -ℤ s *ℤ s)) → ((s *ℤ s) *ℤ a) ≤ℤ (d *ℤ d)
  square_high h =
      let l : (s *ℤ s) *ℤ (a *ℤ b -ℤ d *ℤ d) ≡ ((s *ℤ s) *ℤ a) *ℤ b -ℤ (s *ℤ s) *ℤ (d *ℤ d) = ring (a ∷ b ∷ d ∷ s ∷ []) ((v 3 ⊗ v 3) ⊗ (v 0 ⊗ v 1 ⊖ v 2 ⊗ v 2)) (((v 3 ⊗ v 3) ⊗ v 0) ⊗ v 1 ⊖ (v 3 ⊗ v 3) ⊗ (v 2 ⊗ v 2)) tt in
      let m : (d *ℤ d) *ℤ (b -ℤ s *ℤ s) ≡ (d *ℤ d) *ℤ b -ℤ (s *ℤ s) *ℤ (d *ℤ d) = ring (b ∷ d ∷ s ∷ []) ((v 1 ⊗ v 1) ⊗ (v 0 ⊖ v 2 ⊗ v 2)) ((v 1 ⊗ v 1) ⊗ v 0 ⊖ (v 2 ⊗ v 2) ⊗ (v 1 ⊗ v 1)) tt in
      cancel_le ((s *ℤ s) *ℤ a) (d *ℤ d) b b_above (omega (arith, lin))

  -- s^2 A <= r^2 B from both
  pub no_smaller : pos 0 ≤ℤ (a *ℤ b -ℤ d *ℤ d) → pos 0 ≤ℤ (r *ℤ b -ℤ s *ℤ d) → ((a *ℤ b -ℤ d *ℤ d) *ℤ (b -ℤ s *ℤ s)) ≤ℤ ((r *ℤ b -ℤ s *ℤ d) *ℤ (r *ℤ b -ℤ s *ℤ d)) → ((s *ℤ s) *ℤ (a *ℤ b -ℤ d *ℤ d)) ≤ℤ ((d *ℤ d) *ℤ (b -ℤ s *ℤ s)) → ((s *ℤ s) *ℤ a) ≤ℤ ((r *ℤ r) *ℤ b)
  no_smaller g0 z0 h1 h2 =
      let G = a *ℤ b -ℤ d *ℤ d in
      let C = b -ℤ s *ℤ s in
      let Z = r *ℤ b -ℤ s *ℤ d in
      let gc : pos 0 ≤ℤ (G *ℤ C) = nonneg-mul G C g0 (omega (arith, lin)) in
      let ss : pos 0 ≤ℤ (s *ℤ s) = nonneg-square s in
      -- (s G)^2 <= D^2 B' G <= (D z)^2
      let p1 : (((s *ℤ s) *ℤ G) *ℤ G) ≤ℤ (((d *ℤ d) *ℤ C) *ℤ G) = le-mul ((s *ℤ s) *ℤ G) ((d *ℤ d) *ℤ C) G g0 h2 in
      let p2 : ((G *ℤ C) *ℤ (d *ℤ d)) ≤ℤ ((Z *ℤ Z) *ℤ (d *ℤ d)) = le-mul (G *ℤ C) (Z *ℤ Z) (d *ℤ d) (nonneg-square d) h1 in
      let e1 : ((s *ℤ s) *ℤ G) *ℤ G ≡ (s *ℤ G) *ℤ (s *ℤ G) = ring (s ∷ G ∷ []) (((v 0 ⊗ v 0) ⊗ v 1) ⊗ v 1) ((v 0 ⊗ v 1) ⊗ (v 0 ⊗ v 1)) tt in
      let e2 : ((d *ℤ d) *ℤ C) *ℤ G ≡ (G *ℤ C) *ℤ (d *ℤ d) = ring (d ∷ C ∷ G ∷ []) (((v 0 ⊗ v 0) ⊗ v 1) ⊗ v 2) ((v 2 ⊗ v 1) ⊗ (v 0 ⊗ v 0)) tt in
      let e3 : (Z *ℤ Z) *ℤ (d *ℤ d) ≡ (d *ℤ Z) *ℤ (d *ℤ Z) = ring (Z ∷ d ∷ []) ((v 0 ⊗ v 0) ⊗ (v 1 ⊗ v 1)) ((v 1 ⊗ v 0) ⊗ (v 1 ⊗ v 0)) tt in
      let q : (s *ℤ G) ≤ℤ (d *ℤ Z) = le_from_squares (s *ℤ G) (d *ℤ Z) (nonneg-mul d Z d0 z0) (omega (arith, lin)) in
      let q2 : ((s *ℤ G) *ℤ s) ≤ℤ ((d *ℤ Z) *ℤ s) = le-mul (s *ℤ G) (d *ℤ Z) s s0 q in
      -- r^2 B^2 = s^2 D^2 + 2 s D z + z^2, and s^2 A B = s^2 (G + D^2)
      let f1 : ((r *ℤ r) *ℤ b) *ℤ b ≡ ((s *ℤ s) *ℤ (d *ℤ d) +ℤ ((d *ℤ Z) *ℤ s +ℤ (d *ℤ Z) *ℤ s)) +ℤ Z *ℤ Z = ring (r ∷ b ∷ s ∷ d ∷ []) (((v 0 ⊗ v 0) ⊗ v 1) ⊗ v 1) (((v 2 ⊗ v 2) ⊗ (v 3 ⊗ v 3) ⊕ ((v 3 ⊗ (v 0 ⊗ v 1 ⊖ v 2 ⊗ v 3)) ⊗ v 2 ⊕ (v 3 ⊗ (v 0 ⊗ v 1 ⊖ v 2 ⊗ v 3)) ⊗ v 2)) ⊕ (v 0 ⊗ v 1 ⊖ v 2 ⊗ v 3) ⊗ (v 0 ⊗ v 1 ⊖ v 2 ⊗ v 3)) tt in
      let f2 : ((s *ℤ s) *ℤ a) *ℤ b ≡ (s *ℤ s) *ℤ (d *ℤ d) +ℤ (s *ℤ G) *ℤ s = ring (s ∷ a ∷ b ∷ d ∷ []) (((v 0 ⊗ v 0) ⊗ v 1) ⊗ v 2) ((v 0 ⊗ v 0) ⊗ (v 3 ⊗ v 3) ⊕ (v 0 ⊗ (v 1 ⊗ v 2 ⊖ v 3 ⊗ v 3)) ⊗ v 0) tt in
      let sg : pos 0 ≤ℤ ((s *ℤ G) *ℤ s) = nonneg-mul (s *ℤ G) s (nonneg-mul s G s0 g0) s0 in
      cancel_le ((s *ℤ s) *ℤ a) ((r *ℤ r) *ℤ b) b b_above (omega (arith, lin))

-- ---- rays in the plane of p and q: m q - n p with m = s k D + t and n = s k B
ray_dot : (m n : ℤ) (q p x : Triple) → dot (combined m q (neg_ℤ n) p) x ≡ m *ℤ dot q x -ℤ n *ℤ dot p x
ray_dot m n q p x =
    ring (q.x ∷ q.y ∷ q.z ∷ p.x ∷ p.y ∷ p.z ∷ x.x ∷ x.y ∷ x.z ∷ m ∷ n ∷ []) (((v 9 ⊗ v 0 ⊕ minus (v 10) ⊗ v 3) ⊗ v 6 ⊕ (v 9 ⊗ v 1 ⊕ minus (v 10) ⊗ v 4) ⊗ v 7) ⊕ (v 9 ⊗ v 2 ⊕ minus (v 10) ⊗ v 5) ⊗ v 8) (v 9 ⊗ ((v 0 ⊗ v 6 ⊕ v 1 ⊗ v 7) ⊕ v 2 ⊗ v 8) ⊖ v 10 ⊗ ((v 3 ⊗ v 6 ⊕ v 4 ⊗ v 7) ⊕ v 5 ⊗ v 8)) tt

turned : (p q : Triple) → dot q p ≡ dot p q
turned p q = ring (p.x ∷ p.y ∷ p.z ∷ q.x ∷ q.y ∷ q.z ∷ []) ((v 3 ⊗ v 0 ⊕ v 4 ⊗ v 1) ⊕ v 5 ⊗ v 2) ((v 0 ⊗ v 3 ⊕ v 1 ⊗ v 4) ⊕ v 2 ⊗ v 5) tt

-- w.q = t B
second_is : (b d s k t : ℤ) → ((s *ℤ k) *ℤ d +ℤ t) *ℤ b -ℤ ((s *ℤ k) *ℤ b) *ℤ d ≡ t *ℤ b
second_is b d s k t = ring (b ∷ d ∷ s ∷ k ∷ t ∷ []) (((v 2 ⊗ v 3) ⊗ v 1 ⊕ v 4) ⊗ v 0 ⊖ ((v 2 ⊗ v 3) ⊗ v 0) ⊗ v 1) (v 4 ⊗ v 0) tt

-- w.p = t D - s k G
first_is : (a b d s k t : ℤ) → ((s *ℤ k) *ℤ d +ℤ t) *ℤ d -ℤ ((s *ℤ k) *ℤ b) *ℤ a ≡ t *ℤ d -ℤ (s *ℤ k) *ℤ (a *ℤ b -ℤ d *ℤ d)
first_is a b d s k t = ring (a ∷ b ∷ d ∷ s ∷ k ∷ t ∷ []) (((v 3 ⊗ v 4) ⊗ v 2 ⊕ v 5) ⊗ v 2 ⊖ ((v 3 ⊗ v 4) ⊗ v 1) ⊗ v 0) (v 5 ⊗ v 2 ⊖ (v 3 ⊗ v 4) ⊗ (v 0 ⊗ v 1 ⊖ v 2 ⊗ v 2)) tt

-- |w|^2 = B t^2 + s^2 k^2 B G
square_is : (a b d s k t : ℤ) → (((s *ℤ k) *ℤ d +ℤ t) *ℤ ((s *ℤ k) *ℤ d +ℤ t)) *ℤ b -ℤ (d *ℤ (((s *ℤ k) *ℤ d +ℤ t) *ℤ ((s *ℤ k) *ℤ b)) +ℤ d *ℤ (((s *ℤ k) *ℤ d +ℤ t) *ℤ ((s *ℤ k) *ℤ b))) +ℤ (((s *ℤ k) *ℤ b) *ℤ ((s *ℤ k) *ℤ b)) *ℤ a ≡ b *ℤ (t *ℤ t) +ℤ ((s *ℤ s) *ℤ (k *ℤ k)) *ℤ (b *ℤ (a *ℤ b -ℤ d *ℤ d))
square_is a b d s k t =
    let M : Poly = (v 3 ⊗ v 4) ⊗ v 2 ⊕ v 5 in
    let N : Poly = (v 3 ⊗ v 4) ⊗ v 1 in
    ring (a ∷ b ∷ d ∷ s ∷ k ∷ t ∷ []) ((M ⊗ M) ⊗ v 1 ⊖ (v 2 ⊗ (M ⊗ N) ⊕ v 2 ⊗ (M ⊗ N)) ⊕ (N ⊗ N) ⊗ v 0) (v 1 ⊗ (v 5 ⊗ v 5) ⊕ ((v 3 ⊗ v 3) ⊗ (v 4 ⊗ v 4)) ⊗ (v 1 ⊗ (v 0 ⊗ v 1 ⊖ v 2 ⊗ v 2))) tt

-- A |w|^2 - (w.p)^2 = (s k D + t)^2 G
beside_is : (a b d s k t : ℤ) → (b *ℤ (t *ℤ t) +ℤ ((s *ℤ s) *ℤ (k *ℤ k)) *ℤ (b *ℤ (a *ℤ b -ℤ d *ℤ d))) *ℤ a -ℤ (t *ℤ d -ℤ (s *ℤ k) *ℤ (a *ℤ b -ℤ d *ℤ d)) *ℤ (t *ℤ d -ℤ (s *ℤ k) *ℤ (a *ℤ b -ℤ d *ℤ d)) ≡ (((s *ℤ k) *ℤ d +ℤ t) *ℤ ((s *ℤ k) *ℤ d +ℤ t)) *ℤ (a *ℤ b -ℤ d *ℤ d)
beside_is a b d s k t =
    let G : Poly = v 0 ⊗ v 1 ⊖ v 2 ⊗ v 2 in
    ring (a ∷ b ∷ d ∷ s ∷ k ∷ t ∷ []) ((v 1 ⊗ (v 5 ⊗ v 5) ⊕ ((v 3 ⊗ v 3) ⊗ (v 4 ⊗ v 4)) ⊗ (v 1 ⊗ G)) ⊗ v 0 ⊖ (v 5 ⊗ v 2 ⊖ (v 3 ⊗ v 4) ⊗ G) ⊗ (v 5 ⊗ v 2 ⊖ (v 3 ⊗ v 4) ⊗ G)) ((((v 3 ⊗ v 4) ⊗ v 2 ⊕ v 5) ⊗ ((v 3 ⊗ v 4) ⊗ v 2 ⊕ v 5)) ⊗ G) tt

-- the ray towards q meets the sphere round it
towards_centre : (q : Triple) (s : ℤ) → IsSphere q s → Meets q q s
towards_centre q s back =
    let ss : pos 0 ≤ℤ (s *ℤ s) = nonneg-square s in
    let b0 : pos 0 <ℤ square q = omega (arith, lin, back.outside) in
    let n : pos 0 ≤ℤ (square q *ℤ (s *ℤ s)) = nonneg-mul (square q) (s *ℤ s) (omega (arith, lin)) ss in
    let e : square q *ℤ (square q -ℤ s *ℤ s) ≡ square q *ℤ square q -ℤ square q *ℤ (s *ℤ s) = ring (square q ∷ s ∷ []) (v 0 ⊗ (v 0 ⊖ v 1 ⊗ v 1)) (v 0 ⊗ v 0 ⊖ v 0 ⊗ (v 1 ⊗ v 1)) tt in
    meets_close q q s b0 (omega (arith, lin)) (omega (arith, lin))

module _ (p q : Triple) (r s : ℤ) (front : IsSphere p r) (back : IsSphere q s) (covers : Covers p r q s) where
  abbrev gram : ℤ
  gram = square p *ℤ square q -ℤ dot p q *ℤ dot p q

  gram_low : pos 0 ≤ℤ (square p *ℤ square q -ℤ dot p q *ℤ dot p q)
  gram_low = let c = cauchy p q in omega (arith, lin)

  second_above : pos 0 <ℤ square q
  second_above = let n : pos 0 ≤ℤ (s *ℤ s) = nonneg-square s in omega (arith, lin, back.outside)

  dot_low : pos 0 ≤ℤ dot p q
  dot_low = let f = towards q p r front (covers q (towards_centre q s back)) in let a : pos 0 ≤ℤ dot q p = f.ahead in let e = turned p q in omega (arith, lin)

  -- what the ray near the edge tells
  module _ (k t : ℤ) (k0 : pos 0 <ℤ k) (g0 : pos 0 <ℤ (square p *ℤ square q -ℤ dot p q *ℤ dot p q)) (root : IsRootAbove ((k *ℤ k) *ℤ ((square p *ℤ square q -ℤ dot p q *ℤ dot p q) *ℤ (square q -ℤ s *ℤ s))) t) where
    abbrev m : ℤ
    m = (s *ℤ k) *ℤ dot p q +ℤ t

    abbrev n : ℤ
    n = (s *ℤ k) *ℤ square q

    abbrev ray : Triple
    ray = combined m q (neg_ℤ n) p

    ray_second : dot ray q ≡ t *ℤ square q
    ray_second = ray_dot m n q p q ∙ second_is (square q) (dot p q) s k t

    ray_first : dot ray p ≡ t *ℤ dot p q -ℤ (s *ℤ k) *ℤ gram
    ray_first = ray_dot m n q p p ∙ (ap (λ z. m *ℤ z -ℤ n *ℤ square p) (turned p q) ∙ first_is (square p) (square q) (dot p q) s k t)

    ray_square : square ray ≡ square q *ℤ (t *ℤ t) +ℤ ((s *ℤ s) *ℤ (k *ℤ k)) *ℤ (square q *ℤ gram)
    ray_square = distance m n q p ∙ (ap (λ z. (m *ℤ m) *ℤ square q -ℤ (z *ℤ (m *ℤ n) +ℤ z *ℤ (m *ℤ n)) +ℤ (n *ℤ n) *ℤ square p) (turned p q) ∙ square_is (square p) (square q) (dot p q) s k t)

    ray_low : pos 0 <ℤ (square q *ℤ (t *ℤ t) +ℤ ((s *ℤ s) *ℤ (k *ℤ k)) *ℤ (square q *ℤ gram))
    ray_low =
        let b0 = second_above in
        let t0 : pos 0 <ℤ t = root.positive in
        let x : pos 0 <ℤ (square q *ℤ (t *ℤ t)) = positive-mul (square q) (t *ℤ t) b0 (positive-mul t t t0 t0) in
        let y : pos 0 ≤ℤ (((s *ℤ s) *ℤ (k *ℤ k)) *ℤ (square q *ℤ gram)) = nonneg-mul ((s *ℤ s) *ℤ (k *ℤ k)) (square q *ℤ gram) (nonneg-mul (s *ℤ s) (k *ℤ k) (nonneg-square s) (nonneg-square k)) (nonneg-mul (square q) gram (omega (arith, lin)) (omega (arith, lin))) in
        omega (arith, lin)

    meets_second : Meets ray q s
    meets_second =
        let b0 = second_above in
        let t0 : pos 0 <ℤ t = root.positive in
        let a : ((k *ℤ k) *ℤ (gram *ℤ (square q -ℤ s *ℤ s))) <ℤ (t *ℤ t) = root.above in
        let ssb : pos 0 ≤ℤ ((s *ℤ s) *ℤ square q) = nonneg-mul (s *ℤ s) (square q) (nonneg-square s) (omega (arith, lin)) in
        let l : (((k *ℤ k) *ℤ (gram *ℤ (square q -ℤ s *ℤ s))) *ℤ ((s *ℤ s) *ℤ square q)) ≤ℤ ((t *ℤ t) *ℤ ((s *ℤ s) *ℤ square q)) = le-mul ((k *ℤ k) *ℤ (gram *ℤ (square q -ℤ s *ℤ s))) (t *ℤ t) ((s *ℤ s) *ℤ square q) ssb (omega (arith, lin)) in
        let e : (square q *ℤ (t *ℤ t) +ℤ ((s *ℤ s) *ℤ (k *ℤ k)) *ℤ (square q *ℤ gram)) *ℤ (square q -ℤ s *ℤ s) -ℤ (t *ℤ square q) *ℤ (t *ℤ square q) ≡ ((k *ℤ k) *ℤ (gram *ℤ (square q -ℤ s *ℤ s))) *ℤ ((s *ℤ s) *ℤ square q) -ℤ (t *ℤ t) *ℤ ((s *ℤ s) *ℤ square q) = ring (square q ∷ t ∷ s ∷ k ∷ gram ∷ []) ((v 0 ⊗ (v 1 ⊗ v 1) ⊕ ((v 2 ⊗ v 2) ⊗ (v 3 ⊗ v 3)) ⊗ (v 0 ⊗ v 4)) ⊗ (v 0 ⊖ v 2 ⊗ v 2) ⊖ (v 1 ⊗ v 0) ⊗ (v 1 ⊗ v 0)) (((v 3 ⊗ v 3) ⊗ (v 4 ⊗ (v 0 ⊖ v 2 ⊗ v 2))) ⊗ ((v 2 ⊗ v 2) ⊗ v 0) ⊖ (v 1 ⊗ v 1) ⊗ ((v 2 ⊗ v 2) ⊗ v 0)) tt in
        let tb : pos 0 <ℤ (t *ℤ square q) = positive-mul t (square q) t0 b0 in
        meets_close ray q s (rw ray_square ray_low) (rw ray_second (omega (arith, lin))) (rw (ray_square, ray_second) (omega (arith, lin)))

    meets_first : IsTowards ray p r
    meets_first = towards ray p r front (covers ray meets_second)

    near_ahead : ((s *ℤ k) *ℤ gram) ≤ℤ (t *ℤ dot p q)
    near_ahead = let h : pos 0 ≤ℤ dot ray p = meets_first.ahead in let e = ray_first in omega (arith, lin)

    near_close : ((((s *ℤ k) *ℤ dot p q +ℤ t) *ℤ ((s *ℤ k) *ℤ dot p q +ℤ t)) *ℤ gram) ≤ℤ ((r *ℤ r) *ℤ (square q *ℤ (t *ℤ t) +ℤ ((s *ℤ s) *ℤ (k *ℤ k)) *ℤ (square q *ℤ gram)))
    near_close =
        let h : (square ray *ℤ (square p -ℤ r *ℤ r)) ≤ℤ (dot ray p *ℤ dot ray p) = meets_first.close in
        let W = square q *ℤ (t *ℤ t) +ℤ ((s *ℤ s) *ℤ (k *ℤ k)) *ℤ (square q *ℤ gram) in
        let X = t *ℤ dot p q -ℤ (s *ℤ k) *ℤ gram in
        let i : (W *ℤ (square p -ℤ r *ℤ r)) ≤ℤ (X *ℤ X) = rw (sym ray_square, sym ray_first) h in
        let e : W *ℤ (square p -ℤ r *ℤ r) ≡ W *ℤ square p -ℤ (r *ℤ r) *ℤ W = ring (W ∷ square p ∷ r ∷ []) (v 0 ⊗ (v 1 ⊖ v 2 ⊗ v 2)) (v 0 ⊗ v 1 ⊖ (v 2 ⊗ v 2) ⊗ v 0) tt in
        let b = beside_is (square p) (square q) (dot p q) s k t in
        omega (arith, lin)

  -- what they come to
  pub record Edge : Type 0 where
    pub side : pos 0 ≤ℤ (r *ℤ square q -ℤ s *ℤ dot p q)
    pub close : ((square p *ℤ square q -ℤ dot p q *ℤ dot p q) *ℤ (square q -ℤ s *ℤ s)) ≤ℤ ((r *ℤ square q -ℤ s *ℤ dot p q) *ℤ (r *ℤ square q -ℤ s *ℤ dot p q))
    pub ahead : ((s *ℤ s) *ℤ (square p *ℤ square q -ℤ dot p q *ℤ dot p q)) ≤ℤ ((dot p q *ℤ dot p q) *ℤ (square q -ℤ s *ℤ s))

  -- k: one more than all that has to stay below it
  pub edge : pos 0 <ℤ (square p *ℤ square q -ℤ dot p q *ℤ dot p q) → Edge
  edge g0 =
      let c0 : pos 0 <ℤ (square q -ℤ s *ℤ s) = omega (arith, lin, back.outside) in
      let b0 = second_above in
      let d0 = dot_low in
      let Y = (gram *ℤ (square q -ℤ s *ℤ s)) *ℤ (dot p q *ℤ dot p q) in
      let F = (r *ℤ r) *ℤ square q +ℤ (r *ℤ r) *ℤ square q in
      let RF = (r *ℤ square q) *ℤ F in
      let y0 : pos 0 ≤ℤ Y = nonneg-mul (gram *ℤ (square q -ℤ s *ℤ s)) (dot p q *ℤ dot p q) (nonneg-mul gram (square q -ℤ s *ℤ s) (omega (arith, lin)) (omega (arith, lin))) (nonneg-square (dot p q)) in
      let rb : pos 0 ≤ℤ ((r *ℤ r) *ℤ square q) = nonneg-mul (r *ℤ r) (square q) (nonneg-square r) (omega (arith, lin)) in
      let f0 : pos 0 ≤ℤ F = omega (arith, lin) in
      let rf0 : pos 0 ≤ℤ RF = nonneg-mul (r *ℤ square q) F (nonneg-mul r (square q) front.radius (omega (arith, lin))) f0 in
      let ff0 : pos 0 ≤ℤ (F *ℤ F) = nonneg-square F in
      let k = (((Y +ℤ Y) +ℤ (Y +ℤ Y)) +ℤ (((RF +ℤ RF) +ℤ F *ℤ F) +ℤ F)) +ℤ pos 1 in
      let k0 : pos 0 <ℤ k = omega (arith, lin) in
      let n0 : pos 0 ≤ℤ ((k *ℤ k) *ℤ (gram *ℤ (square q -ℤ s *ℤ s))) = nonneg-mul (k *ℤ k) (gram *ℤ (square q -ℤ s *ℤ s)) (nonneg-square k) (nonneg-mul gram (square q -ℤ s *ℤ s) (omega (arith, lin)) (omega (arith, lin))) in
      let h = root_above ((k *ℤ k) *ℤ (gram *ℤ (square q -ℤ s *ℤ s))) n0 in
      let big1 : ((Y +ℤ Y) +ℤ (Y +ℤ Y)) <ℤ k = omega (arith, lin) in
      let big2 : (((RF +ℤ RF) +ℤ F *ℤ F) +ℤ F) <ℤ k = omega (arith, lin) in
      let eb : square q ≡ (square q -ℤ s *ℤ s) +ℤ s *ℤ s = omega (arith, lin) in
      let close = near_close k h.root k0 g0 h.is in
      record {
        side = side_low (dot p q) r s gram (square q -ℤ s *ℤ s) (square q) k h.root eb g0 c0 front.radius back.radius d0 k0 h.is close big2;
        close = side_square (dot p q) r s gram (square q -ℤ s *ℤ s) (square q) k h.root eb g0 c0 front.radius back.radius d0 k0 h.is close big2;
        ahead = ahead_of_edge (dot p q) s gram (square q -ℤ s *ℤ s) k h.root g0 c0 back.radius k0 h.is big1 (near_ahead k h.root k0 g0 h.is);
      }

  -- a vector beside q and p, where they lie in one line
  record Beside : Type 0 where
    pub vector : Triple
    pub some : pos 0 <ℤ square vector
    pub second : dot q vector ≡ pos 0

  beside_second : Beside
  beside_second =
      by_lt_z (pos 0) (q.x *ℤ q.x +ℤ q.y *ℤ q.y) (λ h. record {
        vector = record { x = neg_ℤ q.y; y = q.x; z = pos 0 };
        some = let e : (neg_ℤ q.y *ℤ neg_ℤ q.y +ℤ q.x *ℤ q.x) +ℤ pos 0 *ℤ pos 0 ≡ q.x *ℤ q.x +ℤ q.y *ℤ q.y = ring (q.x ∷ q.y ∷ []) ((minus (v 1) ⊗ minus (v 1) ⊕ v 0 ⊗ v 0) ⊕ lit (pos 0) ⊗ lit (pos 0)) (v 0 ⊗ v 0 ⊕ v 1 ⊗ v 1) tt in omega (arith, lin);
        second = ring (q.x ∷ q.y ∷ q.z ∷ []) ((v 0 ⊗ minus (v 1) ⊕ v 1 ⊗ v 0) ⊕ v 2 ⊗ lit (pos 0)) (lit (pos 0)) tt;
      }) (λ h. let y0 : pos 0 ≤ℤ (q.y *ℤ q.y) = nonneg-square q.y in let x0 = square_none q.x (omega (arith, lin)) in record {
        vector = record { x = pos 1; y = pos 0; z = pos 0 };
        some = omega (arith, lin);
        second = ring (q.x ∷ q.y ∷ q.z ∷ []) ((v 0 ⊗ lit (pos 1) ⊕ v 1 ⊗ lit (pos 0)) ⊕ v 2 ⊗ lit (pos 0)) (v 0) tt ∙ x0;
      })

  -- where G is 0: B p = D q, so it lies beside p too
  beside_first : (u : Triple) → dot q u ≡ pos 0 → square p *ℤ square q -ℤ dot p q *ℤ dot p q ≡ pos 0 → dot p u ≡ pos 0
  beside_first u beside none =
      let w = combined (square q) p (neg_ℤ (dot p q)) q in
      let e : square w ≡ (square q *ℤ square q) *ℤ square p -ℤ (dot p q *ℤ (square q *ℤ dot p q) +ℤ dot p q *ℤ (square q *ℤ dot p q)) +ℤ (dot p q *ℤ dot p q) *ℤ square q = distance (square q) (dot p q) p q in
      let f : (square q *ℤ square q) *ℤ square p -ℤ (dot p q *ℤ (square q *ℤ dot p q) +ℤ dot p q *ℤ (square q *ℤ dot p q)) +ℤ (dot p q *ℤ dot p q) *ℤ square q ≡ (square p *ℤ square q -ℤ dot p q *ℤ dot p q) *ℤ square q = ring (square p ∷ square q ∷ dot p q ∷ []) ((v 1 ⊗ v 1) ⊗ v 0 ⊖ (v 2 ⊗ (v 1 ⊗ v 2) ⊕ v 2 ⊗ (v 1 ⊗ v 2)) ⊕ (v 2 ⊗ v 2) ⊗ v 1) ((v 0 ⊗ v 1 ⊖ v 2 ⊗ v 2) ⊗ v 1) tt in
      let g : square w ≡ pos 0 = e ∙ (f ∙ (ap (λ z. z *ℤ square q) none ∙ ring (square q ∷ []) (lit (pos 0) ⊗ v 0) (lit (pos 0)) tt)) in
      let c : (dot w u *ℤ dot w u) ≤ℤ (square w *ℤ square u) = cauchy w u in
      let h : square w *ℤ square u ≡ pos 0 = ap (λ z. z *ℤ square u) g ∙ ring (square u ∷ []) (lit (pos 0) ⊗ v 0) (lit (pos 0)) tt in
      let i : dot w u ≡ pos 0 = square_none (dot w u) (omega (arith, lin)) in
      let j : dot w u ≡ square q *ℤ dot p u -ℤ dot p q *ℤ dot q u = ray_dot (square q) (dot p q) p q u in
      let l : dot p q *ℤ dot q u ≡ pos 0 = ap (λ z. dot p q *ℤ z) beside ∙ ring (dot p q ∷ []) (v 0 ⊗ lit (pos 0)) (lit (pos 0)) tt in
      let b0 = second_above in
      let n : dot p u *ℤ square q ≡ square q *ℤ dot p u = ring (dot p u ∷ square q ∷ []) (v 0 ⊗ v 1) (v 1 ⊗ v 0) tt in
      cancel_zero (dot p u) (square q) b0 (omega (arith, lin))

  -- the ray t q + s k B u
  module _ (u : Triple) (k t : ℤ) (some : pos 0 <ℤ square u) (second : dot q u ≡ pos 0) (first : dot p u ≡ pos 0) (none : square p *ℤ square q -ℤ dot p q *ℤ dot p q ≡ pos 0) (k0 : pos 0 <ℤ k) (root : IsRootAbove ((k *ℤ k) *ℤ ((square q *ℤ square u) *ℤ (square q -ℤ s *ℤ s))) t) where
    abbrev n2 : ℤ
    n2 = (s *ℤ k) *ℤ square q

    abbrev side_ray : Triple
    side_ray = combined t q n2 u

    sum_dot : (x : Triple) → dot (combined t q n2 u) x ≡ t *ℤ dot q x +ℤ n2 *ℤ dot u x
    sum_dot x =
        ring (q.x ∷ q.y ∷ q.z ∷ u.x ∷ u.y ∷ u.z ∷ x.x ∷ x.y ∷ x.z ∷ t ∷ n2 ∷ []) (((v 9 ⊗ v 0 ⊕ v 10 ⊗ v 3) ⊗ v 6 ⊕ (v 9 ⊗ v 1 ⊕ v 10 ⊗ v 4) ⊗ v 7) ⊕ (v 9 ⊗ v 2 ⊕ v 10 ⊗ v 5) ⊗ v 8) (v 9 ⊗ ((v 0 ⊗ v 6 ⊕ v 1 ⊗ v 7) ⊕ v 2 ⊗ v 8) ⊕ v 10 ⊗ ((v 3 ⊗ v 6 ⊕ v 4 ⊗ v 7) ⊕ v 5 ⊗ v 8)) tt

    without : (x y : ℤ) → y ≡ pos 0 → x +ℤ n2 *ℤ y ≡ x
    without x y e = ap (λ z. x +ℤ n2 *ℤ z) e ∙ ring (x ∷ n2 ∷ []) (v 0 ⊕ v 1 ⊗ lit (pos 0)) (v 0) tt

    side_second : dot side_ray q ≡ t *ℤ square q
    side_second = sum_dot q ∙ without (t *ℤ square q) (dot u q) (turned q u ∙ second)

    side_first : dot side_ray p ≡ t *ℤ dot p q
    side_first = sum_dot p ∙ (without (t *ℤ dot q p) (dot u p) (turned p u ∙ first) ∙ ap (λ z. t *ℤ z) (turned p q))

    side_length : square side_ray ≡ (t *ℤ t) *ℤ square q +ℤ (((s *ℤ s) *ℤ (k *ℤ k)) *ℤ (square q *ℤ square q)) *ℤ square u
    side_length =
        let e : square side_ray ≡ ((t *ℤ t) *ℤ square q +ℤ (n2 *ℤ n2) *ℤ square u) +ℤ (n2 *ℤ (t +ℤ t)) *ℤ dot q u = ring (q.x ∷ q.y ∷ q.z ∷ u.x ∷ u.y ∷ u.z ∷ t ∷ n2 ∷ []) (((v 6 ⊗ v 0 ⊕ v 7 ⊗ v 3) ⊗ (v 6 ⊗ v 0 ⊕ v 7 ⊗ v 3) ⊕ (v 6 ⊗ v 1 ⊕ v 7 ⊗ v 4) ⊗ (v 6 ⊗ v 1 ⊕ v 7 ⊗ v 4)) ⊕ (v 6 ⊗ v 2 ⊕ v 7 ⊗ v 5) ⊗ (v 6 ⊗ v 2 ⊕ v 7 ⊗ v 5)) (((v 6 ⊗ v 6) ⊗ ((v 0 ⊗ v 0 ⊕ v 1 ⊗ v 1) ⊕ v 2 ⊗ v 2) ⊕ (v 7 ⊗ v 7) ⊗ ((v 3 ⊗ v 3 ⊕ v 4 ⊗ v 4) ⊕ v 5 ⊗ v 5)) ⊕ (v 7 ⊗ (v 6 ⊕ v 6)) ⊗ ((v 0 ⊗ v 3 ⊕ v 1 ⊗ v 4) ⊕ v 2 ⊗ v 5)) tt in
        e ∙ (ap (λ z. ((t *ℤ t) *ℤ square q +ℤ (n2 *ℤ n2) *ℤ square u) +ℤ (n2 *ℤ (t +ℤ t)) *ℤ z) second ∙ ring (t ∷ square q ∷ s ∷ k ∷ square u ∷ []) (((v 0 ⊗ v 0) ⊗ v 1 ⊕ (((v 2 ⊗ v 3) ⊗ v 1) ⊗ ((v 2 ⊗ v 3) ⊗ v 1)) ⊗ v 4) ⊕ (((v 2 ⊗ v 3) ⊗ v 1) ⊗ (v 0 ⊕ v 0)) ⊗ lit (pos 0)) ((v 0 ⊗ v 0) ⊗ v 1 ⊕ (((v 2 ⊗ v 2) ⊗ (v 3 ⊗ v 3)) ⊗ (v 1 ⊗ v 1)) ⊗ v 4) tt)

    abbrev long : ℤ
    long = (t *ℤ t) *ℤ square q +ℤ (((s *ℤ s) *ℤ (k *ℤ k)) *ℤ (square q *ℤ square q)) *ℤ square u

    long_low : pos 0 <ℤ long
    long_low =
        let b0 = second_above in
        let t0 : pos 0 <ℤ t = root.positive in
        let x : pos 0 <ℤ ((t *ℤ t) *ℤ square q) = positive-mul (t *ℤ t) (square q) (positive-mul t t t0 t0) b0 in
        let y : pos 0 ≤ℤ ((((s *ℤ s) *ℤ (k *ℤ k)) *ℤ (square q *ℤ square q)) *ℤ square u) = nonneg-mul (((s *ℤ s) *ℤ (k *ℤ k)) *ℤ (square q *ℤ square q)) (square u) (nonneg-mul ((s *ℤ s) *ℤ (k *ℤ k)) (square q *ℤ square q) (nonneg-mul (s *ℤ s) (k *ℤ k) (nonneg-square s) (nonneg-square k)) (nonneg-square (square q))) (omega (arith, lin)) in
        omega (arith, lin)

    side_meets : Meets side_ray q s
    side_meets =
        let b0 = second_above in
        let t0 : pos 0 <ℤ t = root.positive in
        let a : ((k *ℤ k) *ℤ ((square q *ℤ square u) *ℤ (square q -ℤ s *ℤ s))) <ℤ (t *ℤ t) = root.above in
        let ssb : pos 0 ≤ℤ ((s *ℤ s) *ℤ square q) = nonneg-mul (s *ℤ s) (square q) (nonneg-square s) (omega (arith, lin)) in
        let l : (((k *ℤ k) *ℤ ((square q *ℤ square u) *ℤ (square q -ℤ s *ℤ s))) *ℤ ((s *ℤ s) *ℤ square q)) ≤ℤ ((t *ℤ t) *ℤ ((s *ℤ s) *ℤ square q)) = le-mul ((k *ℤ k) *ℤ ((square q *ℤ square u) *ℤ (square q -ℤ s *ℤ s))) (t *ℤ t) ((s *ℤ s) *ℤ square q) ssb (omega (arith, lin)) in
        let e : long *ℤ (square q -ℤ s *ℤ s) -ℤ (t *ℤ square q) *ℤ (t *ℤ square q) ≡ ((k *ℤ k) *ℤ ((square q *ℤ square u) *ℤ (square q -ℤ s *ℤ s))) *ℤ ((s *ℤ s) *ℤ square q) -ℤ (t *ℤ t) *ℤ ((s *ℤ s) *ℤ square q) = ring (square q ∷ t ∷ s ∷ k ∷ square u ∷ []) (((v 1 ⊗ v 1) ⊗ v 0 ⊕ (((v 2 ⊗ v 2) ⊗ (v 3 ⊗ v 3)) ⊗ (v 0 ⊗ v 0)) ⊗ v 4) ⊗ (v 0 ⊖ v 2 ⊗ v 2) ⊖ (v 1 ⊗ v 0) ⊗ (v 1 ⊗ v 0)) (((v 3 ⊗ v 3) ⊗ ((v 0 ⊗ v 4) ⊗ (v 0 ⊖ v 2 ⊗ v 2))) ⊗ ((v 2 ⊗ v 2) ⊗ v 0) ⊖ (v 1 ⊗ v 1) ⊗ ((v 2 ⊗ v 2) ⊗ v 0)) tt in
        let tb : pos 0 <ℤ (t *ℤ square q) = positive-mul t (square q) t0 b0 in
        meets_close side_ray q s (rw side_length long_low) (rw side_second (omega (arith, lin))) (rw (side_length, side_second) (omega (arith, lin)))

    -- s^2 k^2 B U A' <= t^2 r^2
    side_close : (((s *ℤ s) *ℤ ((square q *ℤ square u) *ℤ (square p -ℤ r *ℤ r))) *ℤ (k *ℤ k)) ≤ℤ ((t *ℤ t) *ℤ (r *ℤ r))
    side_close =
        let b0 = second_above in
        let f = towards side_ray p r front (covers side_ray side_meets) in
        let h : (square side_ray *ℤ (square p -ℤ r *ℤ r)) ≤ℤ (dot side_ray p *ℤ dot side_ray p) = f.close in
        let i : (long *ℤ (square p -ℤ r *ℤ r)) ≤ℤ ((t *ℤ dot p q) *ℤ (t *ℤ dot p q)) = rw (sym side_length, sym side_first) h in
        let d : (t *ℤ dot p q) *ℤ (t *ℤ dot p q) ≡ (t *ℤ t) *ℤ (square p *ℤ square q) -ℤ (t *ℤ t) *ℤ (square p *ℤ square q -ℤ dot p q *ℤ dot p q) = ring (t ∷ dot p q ∷ square p ∷ square q ∷ []) ((v 0 ⊗ v 1) ⊗ (v 0 ⊗ v 1)) ((v 0 ⊗ v 0) ⊗ (v 2 ⊗ v 3) ⊖ (v 0 ⊗ v 0) ⊗ (v 2 ⊗ v 3 ⊖ v 1 ⊗ v 1)) tt in
        let z : (t *ℤ t) *ℤ (square p *ℤ square q -ℤ dot p q *ℤ dot p q) ≡ pos 0 = ap (λ z. (t *ℤ t) *ℤ z) none ∙ ring (t ∷ []) ((v 0 ⊗ v 0) ⊗ lit (pos 0)) (lit (pos 0)) tt in
        let e : long *ℤ (square p -ℤ r *ℤ r) -ℤ (t *ℤ t) *ℤ (square p *ℤ square q) ≡ (((s *ℤ s) *ℤ ((square q *ℤ square u) *ℤ (square p -ℤ r *ℤ r))) *ℤ (k *ℤ k)) *ℤ square q -ℤ ((t *ℤ t) *ℤ (r *ℤ r)) *ℤ square q = ring (square q ∷ t ∷ s ∷ k ∷ square u ∷ square p ∷ r ∷ []) (((v 1 ⊗ v 1) ⊗ v 0 ⊕ (((v 2 ⊗ v 2) ⊗ (v 3 ⊗ v 3)) ⊗ (v 0 ⊗ v 0)) ⊗ v 4) ⊗ (v 5 ⊖ v 6 ⊗ v 6) ⊖ (v 1 ⊗ v 1) ⊗ (v 5 ⊗ v 0)) ((((v 2 ⊗ v 2) ⊗ ((v 0 ⊗ v 4) ⊗ (v 5 ⊖ v 6 ⊗ v 6))) ⊗ (v 3 ⊗ v 3)) ⊗ v 0 ⊖ ((v 1 ⊗ v 1) ⊗ (v 6 ⊗ v 6)) ⊗ v 0) tt in
        cancel_le (((s *ℤ s) *ℤ ((square q *ℤ square u) *ℤ (square p -ℤ r *ℤ r))) *ℤ (k *ℤ k)) ((t *ℤ t) *ℤ (r *ℤ r)) (square q) b0 (omega (arith, lin))

  in_line : square p *ℤ square q -ℤ dot p q *ℤ dot p q ≡ pos 0 → IsNoSmaller p r q s
  in_line none =
      let b0 = second_above in
      let c0 : pos 0 <ℤ (square q -ℤ s *ℤ s) = omega (arith, lin, back.outside) in
      let side = beside_second in
      let first = beside_first side.vector side.second none in
      let some : pos 0 <ℤ square side.vector = side.some in
      let U = square q *ℤ square side.vector in
      let u0 : pos 0 <ℤ U = positive-mul (square q) (square side.vector) b0 some in
      let m0 : pos 0 <ℤ (U *ℤ (square q -ℤ s *ℤ s)) = positive-mul U (square q -ℤ s *ℤ s) u0 c0 in
      let Y = (U *ℤ (square q -ℤ s *ℤ s)) *ℤ (r *ℤ r) in
      let y0 : pos 0 ≤ℤ Y = nonneg-mul (U *ℤ (square q -ℤ s *ℤ s)) (r *ℤ r) (omega (arith, lin)) (nonneg-square r) in
      let k = ((Y +ℤ Y) +ℤ (Y +ℤ Y)) +ℤ pos 1 in
      let k0 : pos 0 <ℤ k = omega (arith, lin) in
      let h = root_above ((k *ℤ k) *ℤ (U *ℤ (square q -ℤ s *ℤ s))) (nonneg-mul (k *ℤ k) (U *ℤ (square q -ℤ s *ℤ s)) (nonneg-square k) (omega (arith, lin))) in
      let near = side_close side.vector k h.root some side.second first none k0 h.is in
      let l : ((s *ℤ s) *ℤ (U *ℤ (square p -ℤ r *ℤ r))) ≤ℤ Y = in_the_limit ((s *ℤ s) *ℤ (U *ℤ (square p -ℤ r *ℤ r))) (r *ℤ r) (U *ℤ (square q -ℤ s *ℤ s)) k h.root (nonneg-square r) m0 k0 h.is near (omega (arith, lin)) in
      let e : (s *ℤ s) *ℤ (U *ℤ (square p -ℤ r *ℤ r)) ≡ ((s *ℤ s) *ℤ (square p -ℤ r *ℤ r)) *ℤ U = ring (s ∷ U ∷ (square p -ℤ r *ℤ r) ∷ []) ((v 0 ⊗ v 0) ⊗ (v 1 ⊗ v 2)) (((v 0 ⊗ v 0) ⊗ v 2) ⊗ v 1) tt in
      let f : Y ≡ ((r *ℤ r) *ℤ (square q -ℤ s *ℤ s)) *ℤ U = ring (U ∷ (square q -ℤ s *ℤ s) ∷ r ∷ []) ((v 0 ⊗ v 1) ⊗ (v 2 ⊗ v 2)) (((v 2 ⊗ v 2) ⊗ v 1) ⊗ v 0) tt in
      let c : ((s *ℤ s) *ℤ (square p -ℤ r *ℤ r)) ≤ℤ ((r *ℤ r) *ℤ (square q -ℤ s *ℤ s)) = cancel_le ((s *ℤ s) *ℤ (square p -ℤ r *ℤ r)) ((r *ℤ r) *ℤ (square q -ℤ s *ℤ s)) U u0 (omega (arith, lin)) in
      let i : (s *ℤ s) *ℤ (square p -ℤ r *ℤ r) ≡ (s *ℤ s) *ℤ square p -ℤ (s *ℤ s) *ℤ (r *ℤ r) = ring (s ∷ square p ∷ r ∷ []) ((v 0 ⊗ v 0) ⊗ (v 1 ⊖ v 2 ⊗ v 2)) ((v 0 ⊗ v 0) ⊗ v 1 ⊖ (v 0 ⊗ v 0) ⊗ (v 2 ⊗ v 2)) tt in
      let j : (r *ℤ r) *ℤ (square q -ℤ s *ℤ s) ≡ (r *ℤ r) *ℤ square q -ℤ (s *ℤ s) *ℤ (r *ℤ r) = ring (r ∷ square q ∷ s ∷ []) ((v 0 ⊗ v 0) ⊗ (v 1 ⊖ v 2 ⊗ v 2)) ((v 0 ⊗ v 0) ⊗ v 1 ⊖ (v 2 ⊗ v 2) ⊗ (v 0 ⊗ v 0)) tt in
      omega (arith, lin)

  -- ---- both cases
  pub record Covered : Type 0 where
    pub ahead : pos 0 ≤ℤ (dot p q -ℤ r *ℤ s)
    pub inside : ((square p -ℤ r *ℤ r) *ℤ (square q -ℤ s *ℤ s)) ≤ℤ ((dot p q -ℤ r *ℤ s) *ℤ (dot p q -ℤ r *ℤ s))
    pub larger : IsNoSmaller p r q s

  apart : pos 0 <ℤ (square p *ℤ square q -ℤ dot p q *ℤ dot p q) → Covered
  apart g0 =
      let e = edge g0 in
      let r0 : pos 0 ≤ℤ r = front.radius in
      let s0 : pos 0 ≤ℤ s = back.radius in
      let d0 = dot_low in
      record {
        ahead = ahead_low (square p) (square q) (dot p q) r s r0 s0 d0 front.outside back.outside (square_high (square p) (square q) (dot p q) r s r0 s0 d0 front.outside back.outside e.ahead);
        inside = inside_low (square p) (square q) (dot p q) r s r0 s0 d0 front.outside back.outside e.close;
        larger = no_smaller (square p) (square q) (dot p q) r s r0 s0 d0 front.outside back.outside gram_low e.side e.close e.ahead;
      }

  together : square p *ℤ square q -ℤ dot p q *ℤ dot p q ≡ pos 0 → Covered
  together none =
      let b0 = second_above in
      let r0 : pos 0 ≤ℤ r = front.radius in
      let s0 : pos 0 ≤ℤ s = back.radius in
      let d0 = dot_low in
      let n : (square p *ℤ square q -ℤ dot p q *ℤ dot p q) *ℤ (square q -ℤ s *ℤ s) ≡ pos 0 = ap (λ z. z *ℤ (square q -ℤ s *ℤ s)) none ∙ ring ((square q -ℤ s *ℤ s) ∷ []) (lit (pos 0) ⊗ v 0) (lit (pos 0)) tt in
      let n2 : (s *ℤ s) *ℤ (square p *ℤ square q -ℤ dot p q *ℤ dot p q) ≡ pos 0 = ap (λ z. (s *ℤ s) *ℤ z) none ∙ ring (s ∷ []) ((v 0 ⊗ v 0) ⊗ lit (pos 0)) (lit (pos 0)) tt in
      let z0 : pos 0 ≤ℤ ((r *ℤ square q -ℤ s *ℤ dot p q) *ℤ (r *ℤ square q -ℤ s *ℤ dot p q)) = nonneg-square (r *ℤ square q -ℤ s *ℤ dot p q) in
      let dc : pos 0 ≤ℤ ((dot p q *ℤ dot p q) *ℤ (square q -ℤ s *ℤ s)) = nonneg-mul (dot p q *ℤ dot p q) (square q -ℤ s *ℤ s) (nonneg-square (dot p q)) (omega (arith, lin, back.outside)) in
      record {
        ahead = ahead_low (square p) (square q) (dot p q) r s r0 s0 d0 front.outside back.outside (square_high (square p) (square q) (dot p q) r s r0 s0 d0 front.outside back.outside (omega (arith, lin)));
        inside = inside_low (square p) (square q) (dot p q) r s r0 s0 d0 front.outside back.outside (omega (arith, lin));
        larger = in_line none;
      }

  pub covered : Covered
  covered =
      let g = gram_low in
      by_lt_z (pos 0) (square p *ℤ square q -ℤ dot p q *ℤ dot p q) apart (λ h. together (omega (arith, lin)))

pub covers_low : (p q : Triple) (r s : ℤ) → IsSphere p r → IsSphere q s → Covers p r q s → (pos 0 ≤ℤ (signed_sq (dot p q -ℤ r *ℤ s) -ℤ (square p -ℤ r *ℤ r) *ℤ (square q -ℤ s *ℤ s))) × IsNoSmaller p r q s
covers_low p q r s front back covers =
    let c = covered p q r s front back covers in
    let e = signed_own (dot p q -ℤ r *ℤ s) c.ahead in
    let i : ((square p -ℤ r *ℤ r) *ℤ (square q -ℤ s *ℤ s)) ≤ℤ ((dot p q -ℤ r *ℤ s) *ℤ (dot p q -ℤ r *ℤ s)) = c.inside in
    (omega (arith, lin), c.larger)
