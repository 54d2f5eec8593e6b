-- Over times that fit, the bounds of columns, of the coordinates of bodies and of formulas of these include their enclosures
-- over every span within.
use Rattle.std.proofs.Common.{ℕ, ◌<◌, sym, subst, arith, ℤ, ◌≤ℤ◌, ◌<ℤ◌}
use Rattle.std.proofs.lemmas.Int.{ints}
use Rattle.spec_intervals.specs.Fraction.{Fraction}
use Rattle.spec_intervals.specs.Enclosure.{PartsHold, middle}
use Rattle.spec_intervals.proofs.Centred.{middle_between}
use Rattle.spec_ephemeris.specs.Series.{Series}
use Rattle.spec_ephemeris.specs.Granules.{series_at}
use Rattle.spec_motions.specs.Enclosures.{IsSeries, IsSpanOf}
use Rattle.spec_expressions.specs.Term.{Leaf, Term, position as position_of, velocity as velocity_of, IsLeaf, HasLeaves, exact_of}
use Rattle.spec_bodies.specs.declared.quantity.Quantity.{Quantity}
use Rattle.spec_bodies.specs.declared.quantity.Quantity.TheVariants.{Position, Velocity}
use Rattle.spec_bodies.specs.Reading.{IsReadable}
use Rattle.spec_bodies.specs.Views.{View, Fits, coordinate_of, factor_of, exact_value, exact_state, value_interval, step_interval, series_enclosure, column_enclosure, coordinate_enclosure, state_enclosure}
use Rattle.spec_bodies.proofs.Formulas.{IsFraction-factor, all_columns}
use Rattle.spec_bodies.proofs.Held.{same, own_series, own_span, readable_columns, fractions_of_states, states_held}
use Rattle.spec_bodies.proofs.Series.{IsFraction-value, Holds-value, Holds-step, mid_span}
use Rattle.spec_searches.specs.Search.{enclosure_over}
use Rattle.spec_models.specs.Bounds.{IncludesEnclosure}
use Rattle.spec_bounds.specs.Terms.{series_bound, column_bound, coordinate_bound, state_bound, bound_over}
use Rattle.spec_bounds.proofs.Series.{Includes-value, Includes-step}
use Rattle.spec_bounds.proofs.Rules.{IsIncluded, parts_included}
use Rattle.spec_bounds.proofs.Induction.{coordinate_included, term_included}

-- ---- a quantity of a series
module _ (quantity : Quantity) (s : Series) (is : IsSeries s) (a b c d : ℤ) (ca : c ≤ℤ a) (ab : a <ℤ b) (bd : b ≤ℤ d) (whole : IsSpanOf s c d) where
  span : IsSpanOf s a b
  span =
      let first = whole.from in
      let last = whole.to in
      record { from = omega (arith, ints, first, ca); ordered = omega (arith, ints, ab); to = omega (arith, ints, last, bd) }

  series_parts : PartsHold (exact_value quantity s) a b (value_interval quantity s (middle a b) (middle a b)) (value_interval quantity s a b) (step_interval quantity s a b)
  series_parts = record {
    mid = Holds-value s is (middle a b) (middle a b) (mid_span s a b span) quantity (middle a b) (omega (arith, ints)) (omega (arith, ints));
    plain = Holds-value s is a b span quantity;
    step = Holds-step s is a b span quantity;
  }

  series_included : IsIncluded (exact_value quantity s) a b (series_bound quantity c d s) (series_enclosure quantity a b s)
  series_included =
      let between = middle_between a b span.ordered in
      let after = between.0 in
      let before = between.1 in
      parts_included a b c d ca ab bd (exact_value quantity s) (λ t p q. IsFraction-value s is quantity t) _ _ _ _ _ series_parts
      (Includes-value s (middle a b) (middle a b) c d is whole (omega (arith, ints, ca, after)) (omega (arith, ints)) (omega (arith, ints, bd, before)) quantity)
      (Includes-value s a b c d is whole ca span.ordered bd quantity)
      (Includes-step s a b c d is whole ca ab bd quantity)

-- ---- the times from a to b within those from c to d, which fit
module _ (v : View) (a b c d : ℤ) (fits : Fits v c d) (ca : c ≤ℤ a) (ab : a <ℤ b) (bd : b ≤ℤ d) where
  pub part_fits : Fits v a b
  part_fits =
      let from = fits.from in
      let upto = fits.upto in
      record {
        view = fits.view;
        ordered = omega (arith, ints, ab);
        from = omega (arith, ints, from, ca);
        upto = omega (arith, ints, upto, bd);
        no_border = λ t border. fits.no_border t (record {
          number = border.number;
          listed = border.listed;
          border = border.border;
          after = let after = border.after in omega (arith, ints, ca, after);
          upto = let before = border.upto in omega (arith, ints, bd, before);
        });
      }

  -- of a column that can be read, the series at c is that at a too
  abbrev series_here : ℕ → ℕ → Series
  series_here number axis = series_at v.ephemeris number axis c

  abbrev exact_here : Quantity → ℕ → ℕ → ℤ → Fraction
  exact_here quantity number axis = exact_value quantity (series_here number axis)

  module _ (number axis : ℕ) (is : IsReadable v number axis) where
    column_included : (quantity : Quantity) → IsIncluded (exact_here quantity number axis) a b (column_bound v quantity c d number axis) (column_enclosure v quantity a b number axis)
    column_included quantity =
        subst (λ s. IsIncluded (exact_here quantity number axis) a b (column_bound v quantity c d number axis) (series_enclosure quantity a b s)) (sym (same v c d fits number axis is.along is.usable a ca (omega (arith, ints, ab, bd))))
        (series_included quantity (series_here number axis) (own_series v c d fits number axis is.along is.usable) a b c d ca ab bd
        (own_span v c d fits number axis is.along is.usable))

  coordinates_included : (quantity : Quantity) (target axis : ℕ) → axis < 3
      → IncludesEnclosure (coordinate_bound v quantity target axis c d) (coordinate_enclosure v quantity target axis a b)
  coordinates_included quantity target axis three =
      (coordinate_included a b c d ca ab bd (exact_here quantity) (column_bound v quantity c d) (column_enclosure v quantity a b)
      (factor_of v) (IsFraction-factor v.ephemeris.header.emrat) (coordinate_of v target axis)
      (all_columns (IsReadable v) _ (λ number k is. column_included number k is quantity) (coordinate_of v target axis) (readable_columns v c d fits target axis three))).included

  pub state_included : (l : Leaf) → IsLeaf l → IncludesEnclosure (state_bound v l c d) (state_enclosure v l a b)
  state_included (position_of target axis) is = coordinates_included Position target axis is.1
  state_included (velocity_of target axis) is = coordinates_included Velocity target axis is.1

  -- ---- formulas
  leaf_included : (l : Leaf) → IsLeaf l → IsIncluded (exact_state v l) a b (state_bound v l c d) (state_enclosure v l a b)
  leaf_included l is = record {
    numbers = fractions_of_states v a b part_fits l is;
    enclosed = states_held v a b part_fits l is;
    included = state_included l is;
  }

  pub formula_included : (x : Term) → HasLeaves x → IsIncluded (exact_of (exact_state v) x) a b (bound_over v x c d) (enclosure_over (state_enclosure v) x a b)
  formula_included = term_included a b c d ca ab bd (exact_state v) (λ l. state_bound v l c d) (λ l. state_enclosure v l a b) leaf_included
