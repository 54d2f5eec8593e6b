-- Over times that fit, the bounds of columns, of the coordinates of bodies and of formulas of these include their enclosures
-- at each single time within.
use Rattle.std.proofs.Common.{ℕ, ◌<◌, sym, subst, arith, ℤ, ◌≤ℤ◌}
use Rattle.std.proofs.lemmas.Int.{ints}
use Rattle.spec_intervals.specs.Enclosure.{middle}
use Rattle.spec_intervals.proofs.Centred.{middle_between}
use Rattle.spec_ephemeris.specs.Granules.{series_at}
use Rattle.spec_ephemeris.specs.Series.{Series}
use Rattle.spec_motions.specs.Enclosures.{IsSeries, IsSpanOf}
use Rattle.spec_expressions.specs.Term.{Leaf, Term, position as position_of, velocity as velocity_of, IsLeaf, HasLeaves}
use Rattle.spec_bodies.specs.declared.quantity.Quantity.{Quantity}
use Rattle.spec_bodies.specs.declared.quantity.Quantity.TheVariants.{Position, Velocity}
use Rattle.spec_bodies.specs.Reading.{IsReadable}
use Rattle.spec_bodies.specs.Views.{View, Fits, coordinate_of, factor_of, exact_value, value_interval, step_interval, series_enclosure, column_enclosure, coordinate_enclosure, state_enclosure}
use Rattle.spec_bodies.proofs.Formulas.{IsFraction-factor, all_columns}
use Rattle.spec_bodies.proofs.Held.{same, own_series, own_span, readable_columns}
use Rattle.spec_bodies.proofs.Series.{IsFraction-value, Holds-value, time_span}
use Rattle.spec_searches.specs.Search.{enclosure_over}
use Rattle.spec_bounds.specs.Terms.{bound_over, column_bound, coordinate_bound, series_bound, state_bound}
use Rattle.spec_bounds.proofs.Series.{Includes-value}
use Rattle.spec_bounds.proofs.RulesAtTime.{IsIncludedAtTime, parts_included}
use Rattle.spec_bounds.proofs.InductionAtTime.{coordinate_at_time, term_at_time}

-- ---- a quantity of a series, by its mid at the middle of one time
module _ (quantity : Quantity) (s : Series) (is : IsSeries s) (c d t : ℤ) (after : c ≤ℤ t) (before : t ≤ℤ d)
    (whole : IsSpanOf s c d) where
  abbrev mid_time : ℤ
  mid_time = middle t t

  series_at_time : IsIncludedAtTime (series_bound quantity c d s).range (series_enclosure quantity t t s)
  series_at_time =
      let between = middle_between t t (omega (arith, ints)) in
      let low = between.0 in
      let high = between.1 in
      let span = time_span s c d mid_time whole (omega (arith, ints, after, low)) (omega (arith, ints, before, high)) in
      parts_included c d t (value_interval quantity s c d) (step_interval quantity s c d) (value_interval quantity s mid_time mid_time) _ _
      (exact_value quantity s mid_time) (IsFraction-value s is quantity mid_time)
      (Holds-value s is mid_time mid_time span quantity mid_time (omega (arith, ints)) (omega (arith, ints)))
      (Includes-value s mid_time mid_time c d is whole (omega (arith, ints, after, low)) (omega (arith, ints)) (omega (arith, ints, before, high)) quantity)

-- ---- a time of a span that fits
module _ (v : View) (c d t : ℤ) (fits : Fits v c d) (after : c ≤ℤ t) (before : t ≤ℤ d) where
  -- of a column that can be read, the series at c is that at t too
  module _ (number axis : ℕ) (is : IsReadable v number axis) where
    column_at_time : (quantity : Quantity) → IsIncludedAtTime (column_bound v quantity c d number axis).range (column_enclosure v quantity t t number axis)
    column_at_time quantity =
        subst (λ s. IsIncludedAtTime (column_bound v quantity c d number axis).range (series_enclosure quantity t t s)) (sym (same v c d fits number axis is.along is.usable t after before))
        (series_at_time quantity (series_at v.ephemeris number axis c) (own_series v c d fits number axis is.along is.usable) c d t after before
        (own_span v c d fits number axis is.along is.usable))

  coordinates_at_time : (quantity : Quantity) (target axis : ℕ) → axis < 3
      → IsIncludedAtTime (coordinate_bound v quantity target axis c d).range (coordinate_enclosure v quantity target axis t t)
  coordinates_at_time quantity target axis three =
      coordinate_at_time c d t (column_bound v quantity c d) (column_enclosure v quantity t t)
      (factor_of v) (IsFraction-factor v.ephemeris.header.emrat) (coordinate_of v target axis)
      (all_columns (IsReadable v) _ (λ number k is. column_at_time number k is quantity) (coordinate_of v target axis) (readable_columns v c d fits target axis three))

  leaf_at_time : (l : Leaf) → IsLeaf l → IsIncludedAtTime (state_bound v l c d).range (state_enclosure v l t t)
  leaf_at_time (position_of target axis) is = coordinates_at_time Position target axis is.1
  leaf_at_time (velocity_of target axis) is = coordinates_at_time Velocity target axis is.1

  pub formula_at_time : (x : Term) → HasLeaves x → IsIncludedAtTime (bound_over v x c d).range (enclosure_over (state_enclosure v) x t t)
  formula_at_time = term_at_time c d t (λ l. state_bound v l c d) (λ l. state_enclosure v l t t) leaf_at_time
