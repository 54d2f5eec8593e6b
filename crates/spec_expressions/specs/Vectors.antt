-- Terms of vectors: the coordinates of positions and velocities, dot products, and squares of constants.
use Rattle.std.specs.Prelude.{ℕ, ◌<◌}
use Rattle.spec_text.specs.declared.decimals.Decimal.{Decimal}
use Rattle.spec_expressions.specs.declared.vectors.Vector.{Vector}
use Rattle.spec_expressions.specs.declared.vectors.Vector.TheVariants.{Position, Velocity}
use Rattle.spec_expressions.specs.Term.{position, velocity, Term, leaf, length, sum, product}

-- the target is the first or the second
abbrev pub IsVector : Vector → Type 0
IsVector (Position target) = target < 2
IsVector (Velocity target) = target < 2

abbrev pub coordinate : Vector → ℕ → Term
coordinate (Position target) axis = leaf (position target axis)
coordinate (Velocity target) axis = leaf (velocity target axis)

-- (u0 v0 + u1 v1) + u2 v2
abbrev pub dot : Vector → Vector → Term
dot u v = sum (sum (product (coordinate u 0) (coordinate v 0)) (product (coordinate u 1) (coordinate v 1))) (product (coordinate u 2) (coordinate v 2))

-- the square of a constant is its product with itself
abbrev pub squared_length : Decimal → Term
squared_length km = product (length km) (length km)
