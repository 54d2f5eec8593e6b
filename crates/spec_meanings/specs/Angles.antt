-- Distances and angles, by squares.
use Rattle.std.specs.Prelude.{ℕ, ◌*◌, ℤ, pos, negsuc, ◌*ℤ◌, ◌≤ℤ◌, ◌<ℤ◌, ◌⊎◌}
use Rattle.spec_meanings.specs.Space.{Triple, dot, square}

-- p is at least n away
abbrev pub IsFrom : Triple → ℤ → Type 0
IsFrom p n = (n *ℤ n) ≤ℤ square p

-- p is no farther away than q
abbrev pub IsNoFarther : Triple → Triple → Type 0
IsNoFarther p q = square p ≤ℤ square q

-- the disc of the sphere round p with the radius r is no smaller than that of the sphere round q with the radius s: the
-- squares of the sines of their radii are r^2 / A and s^2 / B
abbrev pub IsNoSmaller : Triple → ℤ → Triple → ℤ → Type 0
IsNoSmaller p r q s = ((s *ℤ s) *ℤ square p) ≤ℤ ((r *ℤ r) *ℤ square q)

-- it is smaller
abbrev pub IsSmaller : Triple → ℤ → Triple → ℤ → Type 0
IsSmaller p r q s = ((r *ℤ r) *ℤ square q) <ℤ ((s *ℤ s) *ℤ square p)

-- the angle between p and q is at most that of the cosine c / d. Where c is at least 0, their cosine D / sqrt (A B) is at
-- least 0 and its square at least c^2 / d^2; where c is below 0, it is at least 0 or its square at most c^2 / d^2
abbrev pub AreWithin : Triple → Triple → ℤ → ℕ → Type 0
AreWithin p q (pos c) d = (pos 0 ≤ℤ dot p q) × (((pos c *ℤ pos c) *ℤ (square p *ℤ square q)) ≤ℤ ((dot p q *ℤ dot p q) *ℤ pos (d * d)))
AreWithin p q (negsuc c) d = (pos 0 ≤ℤ dot p q) ⊎ (((dot p q *ℤ dot p q) *ℤ pos (d * d)) ≤ℤ ((negsuc c *ℤ negsuc c) *ℤ (square p *ℤ square q)))
