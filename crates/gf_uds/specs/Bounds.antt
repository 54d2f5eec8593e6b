-- A bound of a quadratic polynomial, from below or from above.
use Rattle.std.specs.Prelude.{ℤ, ◌+ℤ◌, ◌*ℤ◌}
use Rattle.std.specs.Int.{int_max, int_min}
use Rattle.spec_scalars.specs.Quads.{Quadratic, greatest_square, least_square}
use Rattle.gf_uds.specs.declared.squares.Bound.{Bound}
use Rattle.gf_uds.specs.declared.squares.Bound.TheVariants.{High, Low}

abbrev pub outer : Bound → ℤ → ℤ → ℤ
outer Low x y = int_min x y
outer High x y = int_max x y

-- quad_low or quad_high
abbrev pub quad_bound : Bound → Quadratic → ℤ → ℤ → ℤ
quad_bound bound k a b = (outer bound (k.p *ℤ least_square a b) (k.p *ℤ greatest_square a b) +ℤ outer bound (k.q *ℤ a) (k.q *ℤ b)) +ℤ k.r
