-- The exponents of the bounds of coordinates and of formulas stay within limits.
use Rattle.std.proofs.Common.{◌≡◌, ℕ, ◌+◌, ◌*◌, max, ◌≤◌, ◌<◌, arith, ℤ, ◌≤ℤ◌, ◌<ℤ◌, unsigned_abs}
use Rattle.std.proofs.lemmas.Int.{ints}
use Rattle.std.proofs.lemmas.Nat.{mul-le}
use Rattle.spec_intervals.specs.Interval.{from_decimal, distance_exponent, cosine_exponent, zero_interval}
use Rattle.spec_intervals.specs.Enclosure.{IsSpan, IsWithin}
use Rattle.spec_intervals.proofs.Exponents.{IsWithin-more, between-within, cosine-within, distance-within, zero-between}
use Rattle.spec_ephemeris.specs.Ephemeris.{IsBorder}
use Rattle.spec_ephemeris.specs.Granules.{series_at}
use Rattle.spec_motions.specs.Enclosures.{IsSeries, IsSpanOf}
use Rattle.spec_expressions.specs.Term.{Leaf, Term, leaf, length, cosine, sum, difference, product, signed_square, position as position_of, velocity as velocity_of, IsLeaf, HasLeaves, HasConstants, IsFormula, degree, degree_limit, node_limit, nodes, leaf_exponent, part_exponent}
use Rattle.spec_expressions.proofs.Reach.{reach, reach-le}
use Rattle.spec_bodies.specs.declared.factor.Factor.{Factor}
use Rattle.spec_bodies.specs.declared.quantity.Quantity.{Quantity}
use Rattle.spec_bodies.specs.declared.quantity.Quantity.TheVariants.{Position, Velocity}
use Rattle.spec_bodies.specs.Coordinates.{Coordinate, nothing, of_column, times, plus, less, displacement}
use Rattle.spec_bodies.specs.Meanings.{factor_interval}
use Rattle.spec_bodies.specs.Reading.{AllColumns, IsReadable, IsShort, IsUsable, column_highest, column_lowest, highest, lowest}
use Rattle.spec_bodies.specs.Views.{View, Fits, coordinate_of, factor_of, step_interval, target_of, value_interval}
use Rattle.spec_bodies.proofs.Bounds.{displacement_low, in_frame_low}
use Rattle.spec_bodies.proofs.Columns.{series_of, span_of}
use Rattle.spec_bodies.proofs.Factors.{factor_is}
use Rattle.spec_bodies.proofs.Held.{readable_columns, times_span}
use Rattle.spec_bodies.proofs.Series.{value-between, step-between}
use Rattle.spec_models.specs.Bounds.{Bound}
use Rattle.spec_bounds.specs.Limits.{IsBoundWithin}
use Rattle.spec_bounds.specs.Terms.{bound_of, bound_over, column_bound, coordinate_bound, state_bound, term_bound}
use Rattle.spec_bounds.proofs.Exponents.{IsReached, reached-more, reached-within, within-reached, bound-reached, constant-reached, sum-reached, difference-reached, product-reached, signed_square-reached}

-- ---- coordinates
abbrev pub rise : Coordinate → ℕ
rise nothing = 0
rise (of_column number axis) = column_lowest
rise (times f x) = 60 + rise x + 66
rise (plus x y) = max (rise x) (rise y) + 1
rise (less x y) = max (rise x) (rise y) + 1

rise-le : (c : Coordinate) → rise c ≤ 3 * lowest c + highest c
rise-le nothing = omega arith
rise-le (of_column number axis) = omega arith
rise-le (times f x) = let h = rise-le x in omega arith
rise-le (plus x y) = let h = rise-le x in let g = rise-le y in omega arith
rise-le (less x y) = let h = rise-le x in let g = rise-le y in omega arith

-- two operands, at the limit of the one that reaches further
module _ (m n : ℕ) (x y : Bound) (p : IsReached m x) (q : IsReached n y) where
  first : IsReached (max m n) x
  first = reached-more m (max m n) x (omega arith) p

  second : IsReached (max m n) y
  second = reached-more n (max m n) y (omega arith) q

module _ (v : View) (a b : ℤ) (fits : Fits v a b) where
  none_of : (number : ℕ) → IsUsable v number → (t : ℤ) → IsBorder v.ephemeris number t → a <ℤ t → t ≤ℤ b → ⊥
  none_of number usable t border after upto = fits.no_border t (record { number = number; listed = usable.in_use; border = border; after = after; upto = upto })

  pub factor-within : (f : Factor) → IsWithin 60 (factor_interval (factor_of v f))
  factor-within f =
      let is = factor_is v.ephemeris.header.emrat fits.view.checked.header.ratio f in
      record { lo_small = is.lo_small; hi_small = is.hi_small; exponent = sixty _ is.exponent }
    where
      sixty : (s : ℤ) → s ≡ cosine_exponent → unsigned_abs s ≤ 60
      sixty s e = omega (arith, ints)

  module _ (quantity : Quantity) where
    module _ (number axis : ℕ) (is : IsReadable v number axis) where
      is_series : IsSeries (series_at v.ephemeris number axis a)
      is_series = series_of v.ephemeris number fits.view.checked is.usable.there fits.view.block a b fits.from fits.ordered fits.upto (none_of number is.usable) axis is.along is.usable.of_body

      is_span : IsSpanOf (series_at v.ephemeris number axis a) a b
      is_span = span_of v.ephemeris number fits.view.checked is.usable.there fits.view.block a b fits.from fits.ordered fits.upto (none_of number is.usable) axis

      pub values-within : IsWithin column_lowest (value_interval quantity (series_at v.ephemeris number axis a) a b)
      values-within = between-within column_lowest column_highest column_lowest _ (omega arith) (omega arith) (value-between (series_at v.ephemeris number axis a) is_series a b is_span quantity)

      pub changes-within : IsWithin column_lowest (step_interval quantity (series_at v.ephemeris number axis a) a b)
      changes-within = between-within column_lowest column_highest column_lowest _ (omega arith) (omega arith) (step-between (series_at v.ephemeris number axis a) is_series a b is_span quantity)

      column-reached : IsReached column_lowest (column_bound v quantity a b number axis)
      column-reached = bound-reached a b (times_span v a b fits) column_lowest _ _ (IsWithin-more column_lowest (column_lowest + 3) _ (omega arith) values-within) changes-within

    abbrev own : Coordinate → Bound
    own = bound_of (column_bound v quantity a b) (factor_of v) a b

    coordinate-reached : (c : Coordinate) → AllColumns (IsReadable v) c → IsReached (rise c) (own c)
    coordinate-reached nothing all = constant-reached a b (times_span v a b fits) 0 zero_interval (between-within 0 0 0 zero_interval (omega arith) (omega arith) (zero-between 0 0))
    coordinate-reached (of_column number axis) all = column-reached number axis all
    coordinate-reached (times f x) all =
        product-reached a b (times_span v a b fits) 60 (rise x) _ (own x)
        (constant-reached a b (times_span v a b fits) 60 (factor_interval (factor_of v f)) (factor-within f)) (coordinate-reached x all)
    coordinate-reached (plus x y) all =
        sum-reached a b (times_span v a b fits) (max (rise x) (rise y)) (own x) (own y)
        (first (rise x) (rise y) (own x) (own y) (coordinate-reached x all.0) (coordinate-reached y all.1))
        (second (rise x) (rise y) (own x) (own y) (coordinate-reached x all.0) (coordinate-reached y all.1))
    coordinate-reached (less x y) all =
        difference-reached a b (times_span v a b fits) (max (rise x) (rise y)) (own x) (own y)
        (first (rise x) (rise y) (own x) (own y) (coordinate-reached x all.0) (coordinate-reached y all.1))
        (second (rise x) (rise y) (own x) (own y) (coordinate-reached x all.0) (coordinate-reached y all.1))

    pub coordinate-within : (c : Coordinate) → AllColumns (IsReadable v) c → IsShort c → IsBoundWithin leaf_exponent (own c)
    coordinate-within c all short =
        let r = rise-le c in
        let l = short.low in
        let h = short.high in
        reached-within (rise c) leaf_exponent (own c) (omega (arith, r, l, h)) (coordinate-reached c all)

    pub target-within : (target axis : ℕ) → axis < 3 → IsBoundWithin leaf_exponent (coordinate_bound v quantity target axis a b)
    target-within target axis three =
        coordinate-within (coordinate_of v target axis) (readable_columns v a b fits target axis three)
        (in_frame_low v.frame axis (displacement (target_of v target) v.observer) (λ k. displacement_low k (target_of v target) v.observer))

  pub state-within : (l : Leaf) → IsLeaf l → IsBoundWithin leaf_exponent (state_bound v l a b)
  state-within (position_of target axis) is = target-within Position target axis is.1
  state-within (velocity_of target axis) is = target-within Velocity target axis is.1

-- ---- terms, over leaves within their limit
module _ (a b : ℤ) (span : IsSpan a b) (answer : Leaf → Bound) (leaves : (l : Leaf) → IsLeaf l → IsBoundWithin leaf_exponent (answer l)) where
  abbrev far : Term → ℕ
  far = reach leaf_exponent

  abbrev made : Term → Bound
  made = term_bound answer a b

  further : (m n : ℕ) (p : Bound) → IsReached (m + n + 66) p → IsReached (m + n + 126) p
  further m n p is = reached-more (m + n + 66) (m + n + 126) p (omega arith) is

  term-reached : (e : Term) → HasLeaves e → HasConstants e → IsReached (far e) (made e)
  term-reached (leaf l) h c = within-reached leaf_exponent (answer l) (leaves l h)
  term-reached (length d) h c = constant-reached a b span leaf_exponent _ (IsWithin-more 24 leaf_exponent (from_decimal d.mant d.exp distance_exponent) (omega arith) (distance-within d.mant d.exp c))
  term-reached (cosine d) h c = constant-reached a b span leaf_exponent _ (IsWithin-more 60 leaf_exponent (from_decimal d.mant d.exp cosine_exponent) (omega arith) (cosine-within d.mant d.exp c))
  term-reached (sum x y) h c =
      sum-reached a b span (max (far x) (far y)) (made x) (made y)
      (first (far x) (far y) (made x) (made y) (term-reached x h.0 c.0) (term-reached y h.1 c.1))
      (second (far x) (far y) (made x) (made y) (term-reached x h.0 c.0) (term-reached y h.1 c.1))
  term-reached (difference x y) h c =
      difference-reached a b span (max (far x) (far y)) (made x) (made y)
      (first (far x) (far y) (made x) (made y) (term-reached x h.0 c.0) (term-reached y h.1 c.1))
      (second (far x) (far y) (made x) (made y) (term-reached x h.0 c.0) (term-reached y h.1 c.1))
  term-reached (product x y) h c = further (far x) (far y) _ (product-reached a b span (far x) (far y) (made x) (made y) (term-reached x h.0 c.0) (term-reached y h.1 c.1))
  term-reached (signed_square x) h c = further (far x) (far x) _ (signed_square-reached a b span (far x) (made x) (term-reached x h c))

  part-within : (e : Term) → HasLeaves e → HasConstants e → nodes e ≤ node_limit → degree e ≤ degree_limit → IsBoundWithin part_exponent (made e)
  part-within e h c few low =
      let r = reach-le leaf_exponent e in
      let u : degree e * (1024 + 126 + nodes e) ≤ 16 * (1024 + 126 + 128) = mul-le (degree e) (1024 + 126 + nodes e) 16 (1024 + 126 + 128) low (omega (arith, few)) in
      reached-within (far e) part_exponent (made e) (omega (arith, r, u)) (term-reached e h c)

  pub term-within : (e : Term) → IsFormula e → IsBoundWithin part_exponent (made e)
  term-within e is = part-within e is.leaves is.constants is.nodes_within is.degree_within

pub formula-within : (v : View) (e : Term) (a b : ℤ) → IsFormula e → Fits v a b → IsBoundWithin part_exponent (bound_over v e a b)
formula-within v e a b is fits = term-within a b (times_span v a b fits) (λ l. state_bound v l a b) (state-within v a b fits) e is
