-- The interval of what is seen of two bodies at one time, as its enclosure over that time alone has it: of a column, of a
-- coordinate in a frame, and of a term. At one time an enclosure is its mid, so each rule is that of intervals.
use Rattle.std.specs.Prelude.{ℕ, ℤ}
use Rattle.spec_intervals.specs.Fraction.{Fraction}
use Rattle.spec_intervals.specs.Interval.{Interval, from_decimal, distance_exponent, cosine_exponent, zero_interval, sum as interval_sum, difference as interval_difference, product as interval_product, signed_square as interval_square}
use Rattle.spec_ephemeris.specs.Granules.{series_at}
use Rattle.spec_expressions.specs.Term.{Leaf, Term, leaf, length, cosine, sum, difference, product, signed_square, position as position_of, velocity as velocity_of}
use Rattle.spec_bodies.specs.declared.factor.Factor.{Factor}
use Rattle.spec_bodies.specs.declared.quantity.Quantity.{Quantity}
use Rattle.spec_bodies.specs.declared.quantity.Quantity.TheVariants.{Position, Velocity}
use Rattle.spec_bodies.specs.Coordinates.{Coordinate, nothing, of_column, times, plus, less}
use Rattle.spec_bodies.specs.Meanings.{factor_interval}
use Rattle.spec_bodies.specs.Views.{View, coordinate_of, factor_of, value_interval}

-- ---- columns, at time t of the granule in which time c lies
abbrev pub column_point : View → Quantity → ℤ → ℤ → ℕ → ℕ → Interval
column_point v quantity c t number axis = value_interval quantity (series_at v.ephemeris number axis c) t t

-- ---- coordinates, given those of columns
abbrev pub coordinate_point : (ℕ → ℕ → Interval) → (Factor → Fraction) → Coordinate → Interval
coordinate_point column factors nothing = zero_interval
coordinate_point column factors (of_column number axis) = column number axis
coordinate_point column factors (times f x) = interval_product (factor_interval (factors f)) (coordinate_point column factors x)
coordinate_point column factors (plus x y) = interval_sum (coordinate_point column factors x) (coordinate_point column factors y)
coordinate_point column factors (less x y) = interval_difference (coordinate_point column factors x) (coordinate_point column factors y)

-- of a coordinate that is asked for
abbrev pub state_point : View → ℤ → ℤ → Leaf → Interval
state_point v c t (position_of target axis) = coordinate_point (column_point v Position c t) (factor_of v) (coordinate_of v target axis)
state_point v c t (velocity_of target axis) = coordinate_point (column_point v Velocity c t) (factor_of v) (coordinate_of v target axis)

-- ---- terms, given those of leaves
abbrev pub point_of : (Leaf → Interval) → Term → Interval
point_of answer (leaf l) = answer l
point_of answer (length d) = from_decimal d.mant d.exp distance_exponent
point_of answer (cosine d) = from_decimal d.mant d.exp cosine_exponent
point_of answer (sum x y) = interval_sum (point_of answer x) (point_of answer y)
point_of answer (difference x y) = interval_difference (point_of answer x) (point_of answer y)
point_of answer (product x y) = interval_product (point_of answer x) (point_of answer y)
point_of answer (signed_square x) = interval_square (point_of answer x)
