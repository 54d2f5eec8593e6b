-- The vectors of an event, and their products in the plane of x and y. Axes are counted from 0: x, y and z.
use Rattle.spec_expressions.specs.declared.vectors.Vector.{Vector}
use Rattle.spec_expressions.specs.declared.vectors.Vector.TheVariants.{Position, Velocity}
use Rattle.spec_expressions.specs.Term.{Term, sum, difference, product}
use Rattle.spec_expressions.specs.Vectors.{coordinate}

-- ---- the places and the velocities of the target and of the second body, seen from the observer in the frame
abbrev pub target : Vector
target = Position 0

abbrev pub second : Vector
second = Position 1

abbrev pub target_velocity : Vector
target_velocity = Velocity 0

abbrev pub second_velocity : Vector
second_velocity = Velocity 1

-- ---- what is left of two vectors where they are seen along the z axis
-- u0 v0 + u1 v1, of the dot product
abbrev pub plane_dot : Vector → Vector → Term
plane_dot u v = sum (product (coordinate u 0) (coordinate v 0)) (product (coordinate u 1) (coordinate v 1))

-- u0 v1 - u1 v0, of the cross product
abbrev pub plane_cross : Vector → Vector → Term
plane_cross u v = difference (product (coordinate u 0) (coordinate v 1)) (product (coordinate u 1) (coordinate v 0))
