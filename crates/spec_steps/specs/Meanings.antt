-- What a term means: an arithmetic says what columns and constants are, and how values are combined. One walk serves each.
use Rattle.std.specs.Prelude.{ℕ, ℤ}
use Rattle.spec_intervals.specs.Interval.{Interval, from_decimal, distance_exponent, cosine_exponent, zero_interval, sum as interval_sum, difference as interval_difference, product as interval_product, signed_square as interval_square}
use Rattle.spec_intervals.specs.Fraction.{Fraction}
use Rattle.spec_intervals.specs.Enclosure.{Enclosure, constant_of, sum_of, difference_of, product_of, signed_square_of}
use Rattle.spec_bodies.specs.declared.factor.Factor.{Factor}
use Rattle.spec_bodies.specs.declared.quantity.Quantity.{Quantity}
use Rattle.spec_bodies.specs.Meanings.{factor_interval}
use Rattle.spec_bodies.specs.Views.{View, column_enclosure, factor_of}
use Rattle.spec_models.specs.Bounds.{Bound, constant_bound, sum_bound, difference_bound, product_bound, signed_square_bound}
use Rattle.spec_bounds.specs.Terms.{column_bound}
use Rattle.spec_covers.specs.Points.{column_point}
use Rattle.spec_steps.specs.ColumnTerms.{ColumnTerm, column, zero_term, length, cosine, scaled, sum, difference, product, signed_square}

-- an arithmetic on values V, with the value of each coordinate of a column
pub record Meaning (V : Type 0) : Type 0 where
  pub of_column : Quantity → ℕ → ℕ → V
  pub of_constant : Interval → V
  pub of_sum : V → V → V
  pub of_difference : V → V → V
  pub of_product : V → V → V
  pub of_square : V → V

-- the value of a term; a factor is a constant by which is multiplied
abbrev pub meant : {V : Type 0} → Meaning V → (Factor → Fraction) → ColumnTerm → V
meant m factors (column q number axis) = m.of_column q number axis
meant m factors zero_term = m.of_constant zero_interval
meant m factors (length d) = m.of_constant (from_decimal d.mant d.exp distance_exponent)
meant m factors (cosine d) = m.of_constant (from_decimal d.mant d.exp cosine_exponent)
meant m factors (scaled f x) = m.of_product (m.of_constant (factor_interval (factors f))) (meant m factors x)
meant m factors (sum x y) = m.of_sum (meant m factors x) (meant m factors y)
meant m factors (difference x y) = m.of_difference (meant m factors x) (meant m factors y)
meant m factors (product x y) = m.of_product (meant m factors x) (meant m factors y)
meant m factors (signed_square x) = m.of_square (meant m factors x)

-- ---- the three arithmetics
-- enclosures over the times from a to b
abbrev pub enclosures : View → ℤ → ℤ → Meaning Enclosure
enclosures v a b = record {
  of_column = λ q number axis. column_enclosure v q a b number axis;
  of_constant = constant_of a b;
  of_sum = sum_of a b;
  of_difference = difference_of a b;
  of_product = product_of a b;
  of_square = signed_square_of a b;
}

-- bounds over the times from a to b
abbrev pub bounds : View → ℤ → ℤ → Meaning Bound
bounds v a b = record {
  of_column = λ q number axis. column_bound v q a b number axis;
  of_constant = constant_bound a b;
  of_sum = sum_bound a b;
  of_difference = difference_bound a b;
  of_product = product_bound a b;
  of_square = signed_square_bound a b;
}

-- intervals at time t of the granules in which time c lies
abbrev pub points : View → ℤ → ℤ → Meaning Interval
points v c t = record {
  of_column = λ q number axis. column_point v q c t number axis;
  of_constant = λ x. x;
  of_sum = interval_sum;
  of_difference = interval_difference;
  of_product = interval_product;
  of_square = interval_square;
}

-- ---- what a term means in each, by the factors of the view
abbrev pub enclosure_meant : View → ℤ → ℤ → ColumnTerm → Enclosure
enclosure_meant v a b = meant (enclosures v a b) (factor_of v)

abbrev pub bound_meant : View → ℤ → ℤ → ColumnTerm → Bound
bound_meant v a b = meant (bounds v a b) (factor_of v)

abbrev pub point_meant : View → ℤ → ℤ → ColumnTerm → Interval
point_meant v c t = meant (points v c t) (factor_of v)
