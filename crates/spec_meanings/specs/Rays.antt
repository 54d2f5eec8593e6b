-- Rays from the observer, and the spheres that they meet.
use Rattle.std.specs.Prelude.{ℤ, pos, neg_ℤ, ◌+ℤ◌, ◌*ℤ◌, ◌≤ℤ◌, ◌<ℤ◌}
use Rattle.spec_meanings.specs.Space.{Triple, square}

-- m p + n q
abbrev pub combined : ℤ → Triple → ℤ → Triple → Triple
combined m p n q = record { x = m *ℤ p.x +ℤ n *ℤ q.x; y = m *ℤ p.y +ℤ n *ℤ q.y; z = m *ℤ p.z +ℤ n *ℤ q.z }

-- a sphere round p with the radius r, and the observer outside it
pub record IsSphere (p : Triple) (r : ℤ) : Type 0 where
  pub radius : pos 0 ≤ℤ r
  pub outside : (r *ℤ r) <ℤ square p

-- the ray towards w meets the sphere round p with the radius r: its point m w / n is at most r away from p
pub record Meets (w p : Triple) (r : ℤ) : Type 0 where
  pub m : ℤ
  pub n : ℤ
  pub ahead : pos 0 ≤ℤ m
  pub positive : pos 0 <ℤ n
  pub near : square (combined m w (neg_ℤ n) p) ≤ℤ ((n *ℤ n) *ℤ (r *ℤ r))

-- some ray meets both spheres: the discs overlap
pub record SomeRayMeetsBoth (p : Triple) (r : ℤ) (q : Triple) (s : ℤ) : Type 0 where
  pub ray : Triple
  pub first : Meets ray p r
  pub second : Meets ray q s

-- each ray that meets the second sphere meets the first: the disc of the first covers that of the second
abbrev pub Covers : Triple → ℤ → Triple → ℤ → Type 0
Covers p r q s = (w : Triple) → Meets w q s → Meets w p r
