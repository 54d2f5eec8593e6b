-- Which leaves a term names, as a set of axes for each vector of a target.
use Rattle.std.specs.Prelude.{◌≡◌, ◌⊎◌, ℕ, zero, suc, Bool, false, ◌||◌, ◌==◌}
use Rattle.spec_expressions.specs.declared.vectors.Vector.{Vector}
use Rattle.spec_expressions.specs.declared.vectors.Vector.TheVariants.{Position, Velocity}
use Rattle.spec_expressions.specs.Term.{Leaf, position, velocity, Term, leaf, length, cosine, sum, difference, product, signed_square}
use Rattle.event_expr.specs.declared.axes.Axes.{Axes}
use Rattle.event_expr.specs.declared.leaves.Leaves.{Leaves}

-- ---- what a term names
abbrev pub Names : Term → Leaf → Type 0
Names (leaf k) l = k ≡ l
Names (length d) l = ⊥
Names (cosine d) l = ⊥
Names (sum x y) l = Names x l ⊎ Names y l
Names (difference x y) l = Names x l ⊎ Names y l
Names (product x y) l = Names x l ⊎ Names y l
Names (signed_square x) l = Names x l

-- ---- sets of axes
abbrev pub no_axes : Axes
no_axes = record { x = false; y = false; z = false }

abbrev pub one_axis : ℕ → Axes
one_axis axis = record { x = axis == 0; y = axis == 1; z = axis == 2 }

abbrev pub either_axes : Axes → Axes → Axes
either_axes a b = record { x = a.x || b.x; y = a.y || b.y; z = a.z || b.z }

abbrev pub has_axis : Axes → ℕ → Bool
has_axis a zero = a.x
has_axis a (suc zero) = a.y
has_axis a (suc (suc axis)) = a.z

-- ---- sets of leaves
abbrev pub no_leaves : Leaves
no_leaves = record { first_position = no_axes; first_velocity = no_axes; second_position = no_axes; second_velocity = no_axes }

abbrev pub only : Vector → Axes → Leaves
only (Position zero) axes = record no_leaves { first_position = axes }
only (Position (suc target)) axes = record no_leaves { second_position = axes }
only (Velocity zero) axes = record no_leaves { first_velocity = axes }
only (Velocity (suc target)) axes = record no_leaves { second_velocity = axes }

abbrev pub either_leaves : Leaves → Leaves → Leaves
either_leaves a b = record {
  first_position = either_axes a.first_position b.first_position;
  first_velocity = either_axes a.first_velocity b.first_velocity;
  second_position = either_axes a.second_position b.second_position;
  second_velocity = either_axes a.second_velocity b.second_velocity;
}

-- the axes of a vector
abbrev pub axes_of : Leaves → Vector → Axes
axes_of s (Position zero) = s.first_position
axes_of s (Position (suc target)) = s.second_position
axes_of s (Velocity zero) = s.first_velocity
axes_of s (Velocity (suc target)) = s.second_velocity

abbrev pub has_leaf : Leaves → Leaf → Bool
has_leaf s (position target axis) = has_axis (axes_of s (Position target)) axis
has_leaf s (velocity target axis) = has_axis (axes_of s (Velocity target)) axis

-- ---- the set of what a term names
abbrev pub leaves_of : Term → Leaves
leaves_of (leaf (position target axis)) = only (Position target) (one_axis axis)
leaves_of (leaf (velocity target axis)) = only (Velocity target) (one_axis axis)
leaves_of (length d) = no_leaves
leaves_of (cosine d) = no_leaves
leaves_of (sum x y) = either_leaves (leaves_of x) (leaves_of y)
leaves_of (difference x y) = either_leaves (leaves_of x) (leaves_of y)
leaves_of (product x y) = either_leaves (leaves_of x) (leaves_of y)
leaves_of (signed_square x) = leaves_of x
