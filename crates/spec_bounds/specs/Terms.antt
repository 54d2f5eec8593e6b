-- Bounds of what is seen of two bodies, over a span: of a series, of a column, of a coordinate in a frame, and of a term. Each
-- includes the enclosure over every span within it.
use Rattle.std.specs.Prelude.{ℕ, ℤ}
use Rattle.spec_intervals.specs.Fraction.{Fraction}
use Rattle.spec_intervals.specs.Interval.{from_decimal, distance_exponent, cosine_exponent, zero_interval}
use Rattle.spec_ephemeris.specs.Series.{Series}
use Rattle.spec_ephemeris.specs.Granules.{series_at}
use Rattle.spec_expressions.specs.Term.{Leaf, Term, leaf, length, cosine, sum, difference, product, signed_square, position as position_of, velocity as velocity_of}
use Rattle.spec_bodies.specs.declared.factor.Factor.{Factor}
use Rattle.spec_bodies.specs.declared.quantity.Quantity.{Quantity}
use Rattle.spec_bodies.specs.declared.quantity.Quantity.TheVariants.{Position, Velocity}
use Rattle.spec_bodies.specs.Coordinates.{Coordinate, nothing, of_column, times, plus, less}
use Rattle.spec_bodies.specs.Meanings.{factor_interval}
use Rattle.spec_bodies.specs.Views.{View, coordinate_of, factor_of, step_interval, value_interval}
use Rattle.spec_models.specs.Bounds.{Bound, bound, constant_bound, sum_bound, difference_bound, product_bound, signed_square_bound}

-- ---- columns
abbrev pub series_bound : Quantity → ℤ → ℤ → Series → Bound
series_bound quantity a b s = bound a b (value_interval quantity s a b) (step_interval quantity s a b)

abbrev pub column_bound : View → Quantity → ℤ → ℤ → ℕ → ℕ → Bound
column_bound v quantity a b number axis = series_bound quantity a b (series_at v.ephemeris number axis a)

-- ---- coordinates, given those of columns
abbrev pub bound_of : (ℕ → ℕ → Bound) → (Factor → Fraction) → ℤ → ℤ → Coordinate → Bound
bound_of column factors a b nothing = constant_bound a b zero_interval
bound_of column factors a b (of_column number axis) = column number axis
bound_of column factors a b (times f x) = product_bound a b (constant_bound a b (factor_interval (factors f))) (bound_of column factors a b x)
bound_of column factors a b (plus x y) = sum_bound a b (bound_of column factors a b x) (bound_of column factors a b y)
bound_of column factors a b (less x y) = difference_bound a b (bound_of column factors a b x) (bound_of column factors a b y)

abbrev pub coordinate_bound : View → Quantity → ℕ → ℕ → ℤ → ℤ → Bound
coordinate_bound v quantity target axis a b = bound_of (column_bound v quantity a b) (factor_of v) a b (coordinate_of v target axis)

abbrev pub state_bound : View → Leaf → ℤ → ℤ → Bound
state_bound v (position_of target axis) = coordinate_bound v Position target axis
state_bound v (velocity_of target axis) = coordinate_bound v Velocity target axis

-- ---- terms, given those of leaves
abbrev pub term_bound : (Leaf → Bound) → ℤ → ℤ → Term → Bound
term_bound answer a b (leaf l) = answer l
term_bound answer a b (length d) = constant_bound a b (from_decimal d.mant d.exp distance_exponent)
term_bound answer a b (cosine d) = constant_bound a b (from_decimal d.mant d.exp cosine_exponent)
term_bound answer a b (sum x y) = sum_bound a b (term_bound answer a b x) (term_bound answer a b y)
term_bound answer a b (difference x y) = difference_bound a b (term_bound answer a b x) (term_bound answer a b y)
term_bound answer a b (product x y) = product_bound a b (term_bound answer a b x) (term_bound answer a b y)
term_bound answer a b (signed_square x) = signed_square_bound a b (term_bound answer a b x)

-- of a term over a view, from time a to time b
abbrev pub bound_over : View → Term → ℤ → ℤ → Bound
bound_over v x a b = term_bound (λ l. state_bound v l a b) a b x
