-- The polynomials of a scene: A and B are the squares of the distances, D the dot product of the places, r and q the radii
-- of target and second body, and ' is for what changes a second.
use Rattle.std.specs.Prelude.{ℕ, ◌*◌, ℤ, pos, ◌+ℤ◌, ◌-ℤ◌, ◌*ℤ◌}
use Rattle.spec_intervals.specs.Interval.{signed_sq}
use Rattle.spec_meanings.specs.Space.{dot, square}
use Rattle.spec_meanings.specs.Scenes.{Scene}

-- D |D| - (c |c| / d^2) A B, times d^2, with c / d the cosine
abbrev pub separation : Scene → ℤ → ℕ → ℤ
separation s c d =
    signed_sq (dot s.target s.second) *ℤ pos (d * d) -ℤ signed_sq c *ℤ (square s.target *ℤ square s.second)

-- D' = a' b + a b'
abbrev pub dot_change : Scene → ℤ
dot_change s = dot s.target_velocity s.second +ℤ dot s.target s.second_velocity

-- half of what A B changes by: (a a') B + A (b b')
abbrev pub half_square_change : Scene → ℤ
half_square_change s = dot s.target s.target_velocity *ℤ square s.second +ℤ square s.target *ℤ dot s.second s.second_velocity

-- D' (A B) - D ((a a') B + A (b b'))
abbrev pub separation_change : Scene → ℤ
separation_change s = dot_change s *ℤ (square s.target *ℤ square s.second) -ℤ dot s.target s.second *ℤ half_square_change s

-- E |E| - (A - r^2) (B - q^2), with E = D + r q or D - r q
abbrev pub discs : ℤ → Scene → ℤ → ℤ → ℤ
discs e s r q = signed_sq e -ℤ (square s.target -ℤ r *ℤ r) *ℤ (square s.second -ℤ q *ℤ q)

-- r^2 B - q^2 A
abbrev pub disc_difference : Scene → ℤ → ℤ → ℤ
disc_difference s r q = (r *ℤ r) *ℤ square s.second -ℤ (q *ℤ q) *ℤ square s.target
