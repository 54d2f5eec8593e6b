-- Which rays meet a sphere, by squares of dot products.
use Rattle.std.proofs.Common.{◌≡◌, arith, [], ◌∷◌, ℤ, pos, ◌+ℤ◌, ◌-ℤ◌, ◌*ℤ◌, neg_ℤ, ◌≤ℤ◌, ◌<ℤ◌}
use Rattle.spec_numbers.proofs.Ring.{v, ◌⊕◌, ◌⊖◌, ◌⊗◌, minus, ring}
use Rattle.spec_numbers.proofs.Order.{lin, le-mul, nonneg-square}
use Rattle.spec_numbers.proofs.Whole.{nonneg-mul}
use Rattle.spec_meanings.specs.Space.{Triple, dot, square}
use Rattle.spec_meanings.specs.Rays.{combined, IsSphere, Meets}
use Rattle.spec_meanings.proofs.Cancel.{positive-mul, cancel_le, factor_above, le-products}
use Rattle.spec_meanings.proofs.Variables.{crossed, inner, together, triple}

-- the cross product
abbrev pub cross : Triple → Triple → Triple
cross p q = record { x = p.y *ℤ q.z -ℤ p.z *ℤ q.y; y = p.z *ℤ q.x -ℤ p.x *ℤ q.z; z = p.x *ℤ q.y -ℤ p.y *ℤ q.x }

pub square_low : (p : Triple) → pos 0 ≤ℤ square p
square_low p =
    let a : pos 0 ≤ℤ (p.x *ℤ p.x) = nonneg-square p.x in
    let b : pos 0 ≤ℤ (p.y *ℤ p.y) = nonneg-square p.y in
    let c : pos 0 ≤ℤ (p.z *ℤ p.z) = nonneg-square p.z in
    omega (arith, lin)

-- (w x p).(w x q) = W (p.q) - (w.p) (w.q)
pub lagrange : (w p q : Triple) → dot (cross w p) (cross w q) ≡ square w *ℤ dot p q -ℤ dot w p *ℤ dot w q
lagrange w p q =
    let W = triple 0 in
    let P = triple 3 in
    let Q = triple 6 in
    ring (w.x ∷ w.y ∷ w.z ∷ p.x ∷ p.y ∷ p.z ∷ q.x ∷ q.y ∷ q.z ∷ []) (inner (crossed W P) (crossed W Q)) (inner W W ⊗ inner P Q ⊖ inner W P ⊗ inner W Q) tt

-- (u.v)^2 <= (u.u) (v.v)
pub cauchy : (u w : Triple) → (dot u w *ℤ dot u w) ≤ℤ (square u *ℤ square w)
cauchy u w = let e = lagrange u w w in let n : pos 0 ≤ℤ square (cross u w) = square_low (cross u w) in omega (arith, lin)

-- |m w - n p|^2 = m^2 W - 2 m n (w.p) + n^2 A
pub distance : (m n : ℤ) (w p : Triple) → square (combined m w (neg_ℤ n) p) ≡ (m *ℤ m) *ℤ square w -ℤ (dot w p *ℤ (m *ℤ n) +ℤ dot w p *ℤ (m *ℤ n)) +ℤ (n *ℤ n) *ℤ square p
distance m n w p =
    let W = triple 0 in
    let P = triple 3 in
    let M = v 6 in
    let N = v 7 in
    let ray = together M W (minus N) P in
    ring (w.x ∷ w.y ∷ w.z ∷ p.x ∷ p.y ∷ p.z ∷ m ∷ n ∷ []) (inner ray ray) ((M ⊗ M) ⊗ inner W W ⊖ (inner W P ⊗ (M ⊗ N) ⊕ inner W P ⊗ (M ⊗ N)) ⊕ (N ⊗ N) ⊗ inner P P) tt

-- x + y <= 2 z gives x y <= z^2
mean : (x y z : ℤ) → pos 0 ≤ℤ x → pos 0 ≤ℤ y → (x +ℤ y) ≤ℤ (z +ℤ z) → (x *ℤ y) ≤ℤ (z *ℤ z)
mean x y z p q h =
    let a : ((x +ℤ y) *ℤ (x +ℤ y)) ≤ℤ ((z +ℤ z) *ℤ (z +ℤ z)) = le-products (x +ℤ y) (z +ℤ z) (x +ℤ y) (z +ℤ z) (omega (arith, lin)) (omega (arith, lin)) h h in
    let b : (x +ℤ y) *ℤ (x +ℤ y) ≡ (((x *ℤ y +ℤ x *ℤ y) +ℤ x *ℤ y) +ℤ x *ℤ y) +ℤ (x -ℤ y) *ℤ (x -ℤ y) = ring (x ∷ y ∷ []) ((v 0 ⊕ v 1) ⊗ (v 0 ⊕ v 1)) ((((v 0 ⊗ v 1 ⊕ v 0 ⊗ v 1) ⊕ v 0 ⊗ v 1) ⊕ v 0 ⊗ v 1) ⊕ (v 0 ⊖ v 1) ⊗ (v 0 ⊖ v 1)) tt in
    let c : (z +ℤ z) *ℤ (z +ℤ z) ≡ ((z *ℤ z +ℤ z *ℤ z) +ℤ z *ℤ z) +ℤ z *ℤ z = ring (z ∷ []) ((v 0 ⊕ v 0) ⊗ (v 0 ⊕ v 0)) (((v 0 ⊗ v 0 ⊕ v 0 ⊗ v 0) ⊕ v 0 ⊗ v 0) ⊕ v 0 ⊗ v 0) tt in
    let d : pos 0 ≤ℤ ((x -ℤ y) *ℤ (x -ℤ y)) = nonneg-square (x -ℤ y) in
    omega (arith, lin)

-- what it is for a ray to meet a sphere, by the dot product x of w and p
pub record IsTowards (w p : Triple) (r : ℤ) : Type 0 where
  pub direction : pos 0 <ℤ square w
  pub ahead : pos 0 ≤ℤ dot w p
  pub close : (square w *ℤ (square p -ℤ r *ℤ r)) ≤ℤ (dot w p *ℤ dot w p)

scaled_gap : (n a c : ℤ) → (n *ℤ n) *ℤ (a -ℤ c) ≡ (n *ℤ n) *ℤ a -ℤ (n *ℤ n) *ℤ c
scaled_gap n a c = ring (n ∷ a ∷ c ∷ []) ((v 0 ⊗ v 0) ⊗ (v 1 ⊖ v 2)) ((v 0 ⊗ v 0) ⊗ v 1 ⊖ (v 0 ⊗ v 0) ⊗ v 2) tt

-- X Y <= Z^2 with X = m^2 W, Y = n^2 g and Z = x m n
without_factors : (m n w g x : ℤ) → pos 0 <ℤ (m *ℤ n) → (((m *ℤ m) *ℤ w) *ℤ ((n *ℤ n) *ℤ g)) ≤ℤ ((x *ℤ (m *ℤ n)) *ℤ (x *ℤ (m *ℤ n))) → (w *ℤ g) ≤ℤ (x *ℤ x)
without_factors m n w g x p h =
    let a : ((m *ℤ m) *ℤ w) *ℤ ((n *ℤ n) *ℤ g) ≡ (w *ℤ g) *ℤ ((m *ℤ n) *ℤ (m *ℤ n)) = ring (m ∷ n ∷ w ∷ g ∷ []) (((v 0 ⊗ v 0) ⊗ v 2) ⊗ ((v 1 ⊗ v 1) ⊗ v 3)) ((v 2 ⊗ v 3) ⊗ ((v 0 ⊗ v 1) ⊗ (v 0 ⊗ v 1))) tt in
    let b : (x *ℤ (m *ℤ n)) *ℤ (x *ℤ (m *ℤ n)) ≡ (x *ℤ x) *ℤ ((m *ℤ n) *ℤ (m *ℤ n)) = ring (x ∷ (m *ℤ n) ∷ []) ((v 0 ⊗ v 1) ⊗ (v 0 ⊗ v 1)) ((v 0 ⊗ v 0) ⊗ (v 1 ⊗ v 1)) tt in
    cancel_le (w *ℤ g) (x *ℤ x) ((m *ℤ n) *ℤ (m *ℤ n)) (positive-mul (m *ℤ n) (m *ℤ n) p p) (omega (arith, lin))

pub towards : (w p : Triple) (r : ℤ) → IsSphere p r → Meets w p r → IsTowards w p r
towards w p r out h =
    let e = distance h.m h.n w p in
    let g = scaled_gap h.n (square p) (r *ℤ r) in
    let gap : pos 0 <ℤ (square p -ℤ r *ℤ r) = omega (arith, lin, out.outside) in
    let near : square (combined h.m w (neg_ℤ h.n) p) ≤ℤ ((h.n *ℤ h.n) *ℤ (r *ℤ r)) = h.near in
    let x0 : pos 0 ≤ℤ ((h.m *ℤ h.m) *ℤ square w) = nonneg-mul (h.m *ℤ h.m) (square w) (nonneg-square h.m) (square_low w) in
    let y0 : pos 0 <ℤ ((h.n *ℤ h.n) *ℤ (square p -ℤ r *ℤ r)) = positive-mul (h.n *ℤ h.n) (square p -ℤ r *ℤ r) (positive-mul h.n h.n h.positive h.positive) gap in
    let sum : ((h.m *ℤ h.m) *ℤ square w +ℤ (h.n *ℤ h.n) *ℤ (square p -ℤ r *ℤ r)) ≤ℤ (dot w p *ℤ (h.m *ℤ h.n) +ℤ dot w p *ℤ (h.m *ℤ h.n)) = omega (arith, lin) in
    let z0 : pos 0 <ℤ (dot w p *ℤ (h.m *ℤ h.n)) = omega (arith, lin) in
    let mn : pos 0 ≤ℤ (h.m *ℤ h.n) = nonneg-mul h.m h.n h.ahead (omega (arith, lin, h.positive)) in
    let x : pos 0 <ℤ dot w p = factor_above (dot w p) (h.m *ℤ h.n) mn z0 in
    let turn : (h.m *ℤ h.n) *ℤ dot w p ≡ dot w p *ℤ (h.m *ℤ h.n) = ring ((h.m *ℤ h.n) ∷ dot w p ∷ []) (v 0 ⊗ v 1) (v 1 ⊗ v 0) tt in
    let mn0 : pos 0 <ℤ (h.m *ℤ h.n) = factor_above (h.m *ℤ h.n) (dot w p) (omega (arith, lin)) (omega (arith, lin)) in
    let l = lagrange w p p in
    let c : pos 0 ≤ℤ square (cross w p) = square_low (cross w p) in
    let xx : pos 0 <ℤ (dot w p *ℤ dot w p) = positive-mul (dot w p) (dot w p) x x in
    record { direction = factor_above (square w) (square p) (square_low p) (omega (arith, lin)); ahead = omega (arith, lin); close = without_factors h.m h.n (square w) (square p -ℤ r *ℤ r) (dot w p) mn0 (mean ((h.m *ℤ h.m) *ℤ square w) ((h.n *ℤ h.n) *ℤ (square p -ℤ r *ℤ r)) (dot w p *ℤ (h.m *ℤ h.n)) x0 (omega (arith, lin)) sum) }

-- the ray's point nearest to p is (w.p) w / W
pub meets : (w p : Triple) (r : ℤ) → pos 0 <ℤ square w → pos 0 ≤ℤ dot w p → (square w *ℤ square p -ℤ dot w p *ℤ dot w p) ≤ℤ (square w *ℤ (r *ℤ r)) → Meets w p r
meets w p r direction ahead close =
    let e = distance (dot w p) (square w) w p in
    let f : (dot w p *ℤ dot w p) *ℤ square w -ℤ (dot w p *ℤ (dot w p *ℤ square w) +ℤ dot w p *ℤ (dot w p *ℤ square w)) +ℤ (square w *ℤ square w) *ℤ square p ≡ (square w *ℤ square p -ℤ dot w p *ℤ dot w p) *ℤ square w = ring (dot w p ∷ square w ∷ square p ∷ []) ((v 0 ⊗ v 0) ⊗ v 1 ⊖ (v 0 ⊗ (v 0 ⊗ v 1) ⊕ v 0 ⊗ (v 0 ⊗ v 1)) ⊕ (v 1 ⊗ v 1) ⊗ v 2) ((v 1 ⊗ v 2 ⊖ v 0 ⊗ v 0) ⊗ v 1) tt in
    let g : ((square w *ℤ square p -ℤ dot w p *ℤ dot w p) *ℤ square w) ≤ℤ ((square w *ℤ (r *ℤ r)) *ℤ square w) = le-mul (square w *ℤ square p -ℤ dot w p *ℤ dot w p) (square w *ℤ (r *ℤ r)) (square w) (omega (arith, lin)) close in
    let i : (square w *ℤ (r *ℤ r)) *ℤ square w ≡ (square w *ℤ square w) *ℤ (r *ℤ r) = ring (square w ∷ r ∷ []) ((v 0 ⊗ (v 1 ⊗ v 1)) ⊗ v 0) ((v 0 ⊗ v 0) ⊗ (v 1 ⊗ v 1)) tt in
    record { m = dot w p; n = square w; ahead = ahead; positive = direction; near = omega (arith, lin) }

-- from W (A - r^2) <= x^2
pub meets_close : (w p : Triple) (r : ℤ) → pos 0 <ℤ square w → pos 0 ≤ℤ dot w p → (square w *ℤ (square p -ℤ r *ℤ r)) ≤ℤ (dot w p *ℤ dot w p) → Meets w p r
meets_close w p r direction ahead close =
    let e : square w *ℤ (square p -ℤ r *ℤ r) ≡ square w *ℤ square p -ℤ square w *ℤ (r *ℤ r) = ring (square w ∷ square p ∷ r ∷ []) (v 0 ⊗ (v 1 ⊖ v 2 ⊗ v 2)) (v 0 ⊗ v 1 ⊖ v 0 ⊗ (v 2 ⊗ v 2)) tt in
    meets w p r direction ahead (omega (arith, lin))
