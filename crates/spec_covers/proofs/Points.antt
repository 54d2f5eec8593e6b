-- At one time an enclosure is an interval alone, its mid and its range; each rule makes that interval of those of its operands.
-- So, by induction, the enclosure of a term at one time is the interval of the term at that time.
use Rattle.std.proofs.Common.{◌≡◌, ℕ, ◌<◌, refl, ap, ◌∙◌, arith, ℤ, ◌≤ℤ◌, Bool, true, false}
use Rattle.std.specs.Prelude.{if◌then◌else◌}
use lib.Signed.{lt_z}
use Rattle.std.proofs.lemmas.Int.{ints}
use Rattle.spec_numbers.proofs.Order.{lin}
use Rattle.spec_intervals.specs.Fraction.{Fraction}
use Rattle.spec_intervals.specs.Interval.{Interval, meet, zero_interval, from_decimal, distance_exponent, cosine_exponent, sum as interval_sum, difference as interval_difference, product as interval_product, signed_square as interval_square}
use Rattle.spec_intervals.specs.Enclosure.{Enclosure, triple, centred, enclosure, middle, constant_of, sum_of, difference_of, product_of, signed_square_of}
use Rattle.spec_intervals.proofs.Centred.{middle_between}
use Rattle.spec_intervals.proofs.Enclosed.{mid-of}
use Rattle.spec_ephemeris.specs.Granules.{series_at}
use Rattle.spec_expressions.specs.Term.{Leaf, Term, leaf, length, cosine, sum, difference, product, signed_square, position as position_of, velocity as velocity_of, IsLeaf, HasLeaves, enclosure_of as term_enclosure}
use Rattle.spec_bodies.specs.declared.factor.Factor.{Factor}
use Rattle.spec_bodies.specs.declared.quantity.Quantity.{Quantity}
use Rattle.spec_bodies.specs.declared.quantity.Quantity.TheVariants.{Position, Velocity}
use Rattle.spec_bodies.specs.Coordinates.{Coordinate, nothing, of_column, times, plus, less}
use Rattle.spec_bodies.specs.Meanings.{factor_interval, enclosure_of}
use Rattle.spec_bodies.specs.Reading.{AllColumns, IsReadable}
use Rattle.spec_bodies.specs.Views.{View, Fits, coordinate_of, factor_of, value_interval, column_enclosure, coordinate_enclosure, state_enclosure}
use Rattle.spec_bodies.proofs.Formulas.{all_columns}
use Rattle.spec_bodies.proofs.Held.{same, readable_columns}
use Rattle.spec_searches.specs.Search.{enclosure_over}
use Rattle.spec_covers.specs.Points.{column_point, coordinate_point, state_point, point_of}

-- an enclosure is this interval alone
record IsAlone (e : Enclosure) (x : Interval) : Type 0 where
  mid : e.mid ≡ x
  range : e.range ≡ x

-- one time is the middle from it to itself
middle_of_one : (t : ℤ) → middle t t ≡ t
middle_of_one t = let between = middle_between t t (omega (arith, ints)) in only (middle t t) between.0 between.1
  where
    only : (m : ℤ) → t ≤ℤ m → m ≤ℤ t → m ≡ t
    only m after before = omega (arith, lin)

module _ (t : ℤ) where
  -- at one time the range is the mid that it is made of
  range_given : (mid plain step : Interval) → (enclosure t t mid plain step).range ≡ mid
  unfolding enclosure
  range_given mid plain step = by (lt_z t t) refl
    where
      by : (later : Bool) → lt_z t t ≡ later
          → (if later then triple mid (meet plain (centred t t mid step)) step else triple mid mid zero_interval).range ≡ mid
      by true e = absurd (omega (arith, lin))
      by false e = refl

  parts_alone : (mid plain step x : Interval) → mid ≡ x → IsAlone (enclosure t t mid plain step) x
  parts_alone mid plain step x same = record {
    mid = mid-of t t mid plain step ∙ same;
    range = range_given mid plain step ∙ same;
  }

  -- ---- the rules
  constant_alone : (c : Interval) → IsAlone (constant_of t t c) c
  unfolding constant_of
  constant_alone c = parts_alone c _ _ c refl

  -- of two operands
  module _ (e g : Enclosure) (x y : Interval) (first : IsAlone e x) (second : IsAlone g y) where
    sum_alone : IsAlone (sum_of t t e g) (interval_sum x y)
    unfolding sum_of
    sum_alone = parts_alone (interval_sum e.mid g.mid) _ _ _ (λ i. interval_sum (first.mid i) (second.mid i))

    difference_alone : IsAlone (difference_of t t e g) (interval_difference x y)
    unfolding difference_of
    difference_alone = parts_alone (interval_difference e.mid g.mid) _ _ _ (λ i. interval_difference (first.mid i) (second.mid i))

    product_alone : IsAlone (product_of t t e g) (interval_product x y)
    unfolding product_of
    product_alone = parts_alone (interval_product e.mid g.mid) _ _ _ (λ i. interval_product (first.mid i) (second.mid i))

  signed_square_alone : (e : Enclosure) (x : Interval) → IsAlone e x → IsAlone (signed_square_of t t e) (interval_square x)
  unfolding signed_square_of
  signed_square_alone e x operand = parts_alone (interval_square e.mid) _ _ _ (ap interval_square operand.mid)

  -- ---- coordinates
  module _ (at_time : ℕ → ℕ → Enclosure) (points : ℕ → ℕ → Interval) (factors : Factor → Fraction) where
    abbrev IsColumnAlone : ℕ → ℕ → Type 0
    IsColumnAlone number axis = IsAlone (at_time number axis) (points number axis)

    coordinate_alone : (x : Coordinate) → AllColumns IsColumnAlone x
        → IsAlone (enclosure_of at_time factors t t x) (coordinate_point points factors x)
    coordinate_alone nothing all = constant_alone zero_interval
    coordinate_alone (of_column number axis) all = all
    coordinate_alone (times f x) all =
        product_alone _ _ _ _ (constant_alone (factor_interval (factors f))) (coordinate_alone x all)
    coordinate_alone (plus x y) all = sum_alone _ _ _ _ (coordinate_alone x all.0) (coordinate_alone y all.1)
    coordinate_alone (less x y) all = difference_alone _ _ _ _ (coordinate_alone x all.0) (coordinate_alone y all.1)

  -- ---- terms
  module _ (at_time : Leaf → Enclosure) (points : Leaf → Interval)
      (leaves : (l : Leaf) → IsLeaf l → IsAlone (at_time l) (points l)) where
    term_alone : (x : Term) → HasLeaves x → IsAlone (term_enclosure at_time t t x) (point_of points x)
    term_alone (leaf l) has = leaves l has
    term_alone (length m) has = constant_alone (from_decimal m.mant m.exp distance_exponent)
    term_alone (cosine m) has = constant_alone (from_decimal m.mant m.exp cosine_exponent)
    term_alone (sum x y) has = sum_alone _ _ _ _ (term_alone x has.0) (term_alone y has.1)
    term_alone (difference x y) has = difference_alone _ _ _ _ (term_alone x has.0) (term_alone y has.1)
    term_alone (product x y) has = product_alone _ _ _ _ (term_alone x has.0) (term_alone y has.1)
    term_alone (signed_square x) has = signed_square_alone _ _ (term_alone x has)

-- ---- a time of a span that fits: the series of a column at the first time is that at each
module _ (v : View) (c d t : ℤ) (fits : Fits v c d) (after : c ≤ℤ t) (before : t ≤ℤ d) where
  module _ (number axis : ℕ) (is : IsReadable v number axis) where
    column_alone : (quantity : Quantity) → IsAlone (column_enclosure v quantity t t number axis) (column_point v quantity c t number axis)
    column_alone quantity =
        parts_alone t (value_interval quantity (series_at v.ephemeris number axis t) (middle t t) (middle t t)) _ _ _
        (λ i. value_interval quantity (same v c d fits number axis is.along is.usable t after before i) (middle_of_one t i) (middle_of_one t i))

  coordinates_alone : (quantity : Quantity) (target axis : ℕ) → axis < 3
      → IsAlone (coordinate_enclosure v quantity target axis t t)
      (coordinate_point (column_point v quantity c t) (factor_of v) (coordinate_of v target axis))
  coordinates_alone quantity target axis three =
      coordinate_alone t (column_enclosure v quantity t t) (column_point v quantity c t) (factor_of v) (coordinate_of v target axis)
      (all_columns (IsReadable v) _ (λ number k is. column_alone number k is quantity) (coordinate_of v target axis)
      (readable_columns v c d fits target axis three))

  leaf_alone : (l : Leaf) → IsLeaf l → IsAlone (state_enclosure v l t t) (state_point v c t l)
  leaf_alone (position_of target axis) is = coordinates_alone Position target axis is.1
  leaf_alone (velocity_of target axis) is = coordinates_alone Velocity target axis is.1

  pub point_told : (x : Term) → HasLeaves x
      → (enclosure_over (state_enclosure v) x t t).range ≡ point_of (state_point v c t) x
  point_told x has = (term_alone t (λ l. state_enclosure v l t t) (state_point v c t) leaf_alone x has).range
