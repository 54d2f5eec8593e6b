-- Over times that fit, the mids of columns, of the coordinates of bodies and of formulas of these are the ranges of their
-- enclosures at the middle: no granule begins in between, so the series at the first time is that at the middle too.
use Rattle.std.proofs.Common.{◌≡◌, ℕ, ◌<◌, sym, ◌∙◌, arith, ℤ, ◌≤ℤ◌}
use Rattle.std.proofs.lemmas.Int.{ints}
use Rattle.spec_numbers.proofs.Order.{lin}
use Rattle.spec_intervals.specs.Enclosure.{middle}
use Rattle.spec_intervals.proofs.Centred.{middle_between}
use Rattle.spec_ephemeris.specs.Granules.{series_at}
use Rattle.spec_expressions.specs.Term.{Leaf, Term, position as position_of, velocity as velocity_of, IsLeaf, HasLeaves}
use Rattle.spec_bodies.specs.declared.quantity.Quantity.{Quantity}
use Rattle.spec_bodies.specs.declared.quantity.Quantity.TheVariants.{Position, Velocity}
use Rattle.spec_bodies.specs.Reading.{IsReadable}
use Rattle.spec_bodies.specs.Views.{View, Fits, coordinate_of, factor_of, value_interval, column_enclosure, coordinate_enclosure, state_enclosure}
use Rattle.spec_bodies.proofs.Formulas.{all_columns}
use Rattle.spec_bodies.proofs.Held.{same, readable_columns}
use Rattle.spec_searches.specs.Search.{enclosure_over}
use Rattle.spec_bounds.proofs.RulesAtMiddle.{IsMidOf, parts_at_middle}
use Rattle.spec_bounds.proofs.InductionAtMiddle.{coordinate_at_middle, term_at_middle}

-- one time is the middle from it to itself
middle_of_one : (t : ℤ) → t ≡ middle t t
middle_of_one t = let between = middle_between t t (omega (arith, ints)) in only (middle t t) between.0 between.1
  where
    only : (m : ℤ) → t ≤ℤ m → m ≤ℤ t → t ≡ m
    only m after before = omega (arith, lin)

module _ (v : View) (a b : ℤ) (fits : Fits v a b) where
  abbrev mid_time : ℤ
  mid_time = middle a b

  -- of a column that can be read
  module _ (number axis : ℕ) (is : IsReadable v number axis) where
    same_at_middle : series_at v.ephemeris number axis mid_time ≡ series_at v.ephemeris number axis a
    same_at_middle =
        let between = middle_between a b fits.ordered in
        same v a b fits number axis is.along is.usable mid_time between.0 between.1

    column_at_middle : (quantity : Quantity)
        → IsMidOf (column_enclosure v quantity a b number axis) (column_enclosure v quantity mid_time mid_time number axis)
    column_at_middle quantity =
        parts_at_middle a b mid_time
        (value_interval quantity (series_at v.ephemeris number axis a) mid_time mid_time) _ _
        (value_interval quantity (series_at v.ephemeris number axis mid_time) (middle mid_time mid_time) (middle mid_time mid_time)) _ _
        (λ i. value_interval quantity (sym same_at_middle i) (middle_of_one mid_time i) (middle_of_one mid_time i))

  coordinates_at_middle : (quantity : Quantity) (target axis : ℕ) → axis < 3
      → IsMidOf (coordinate_enclosure v quantity target axis a b) (coordinate_enclosure v quantity target axis mid_time mid_time)
  coordinates_at_middle quantity target axis three =
      coordinate_at_middle a b mid_time (column_enclosure v quantity a b) (column_enclosure v quantity mid_time mid_time)
      (factor_of v) (coordinate_of v target axis)
      (all_columns (IsReadable v) _ (λ number k is. column_at_middle number k is quantity) (coordinate_of v target axis)
      (readable_columns v a b fits target axis three))

  -- ---- formulas
  leaf_at_middle : (l : Leaf) → IsLeaf l → IsMidOf (state_enclosure v l a b) (state_enclosure v l mid_time mid_time)
  leaf_at_middle (position_of target axis) is = coordinates_at_middle Position target axis is.1
  leaf_at_middle (velocity_of target axis) is = coordinates_at_middle Velocity target axis is.1

  pub middle_told : (x : Term) → HasLeaves x
      → (enclosure_over (state_enclosure v) x a b).mid ≡ (enclosure_over (state_enclosure v) x mid_time mid_time).range
  middle_told x has =
      let answer = λ (l : Leaf). state_enclosure v l a b in
      let at_middle = λ (l : Leaf). state_enclosure v l mid_time mid_time in
      let found = term_at_middle a b mid_time answer at_middle leaf_at_middle x has in
      found.same ∙ sym found.single
