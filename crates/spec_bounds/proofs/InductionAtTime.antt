-- By induction, the bound of a coordinate, and of a term, includes the enclosure of it at one time, where those of its parts do.
use Rattle.std.proofs.Common.{ℕ, refl, arith, ℤ, pos}
use Rattle.spec_intervals.specs.Enclosure.{Enclosure}
use Rattle.spec_intervals.specs.Fraction.{Fraction, IsFraction, decimal, fraction}
use Rattle.spec_intervals.specs.Interval.{zero_interval, from_decimal, distance_exponent, cosine_exponent}
use Rattle.spec_intervals.proofs.Compare.{Holds-zero}
use Rattle.spec_intervals.proofs.Decimals.{Holds-from_decimal}
use Rattle.spec_expressions.specs.Term.{Leaf, Term, leaf, length, cosine, sum, difference, product, signed_square, IsLeaf, HasLeaves, enclosure_of as term_enclosure}
use Rattle.spec_expressions.proofs.Induction.{IsFraction-decimal}
use Rattle.spec_bodies.specs.declared.factor.Factor.{Factor}
use Rattle.spec_bodies.specs.Coordinates.{Coordinate, nothing, of_column, times, plus, less}
use Rattle.spec_bodies.specs.Meanings.{factor_interval, enclosure_of}
use Rattle.spec_bodies.specs.Reading.{AllColumns}
use Rattle.spec_bodies.proofs.Formulas.{Holds-factor_interval}
use Rattle.spec_models.specs.Bounds.{Bound}
use Rattle.spec_bounds.specs.Terms.{bound_of, term_bound}
use Rattle.spec_bounds.proofs.RulesAtTime.{IsIncludedAtTime, constant_at_time, sum_at_time, difference_at_time, product_at_time, signed_square_at_time}

-- the time t of the span from c to d
module _ (c d t : ℤ) where
  module _ (bounds : ℕ → ℕ → Bound) (answer : ℕ → ℕ → Enclosure) (factors : Factor → Fraction)
      (fractions : (f : Factor) → IsFraction (factors f)) where
    abbrev IsColumnIncluded : ℕ → ℕ → Type 0
    IsColumnIncluded number axis = IsIncludedAtTime (bounds number axis).range (answer number axis)

    pub coordinate_at_time : (x : Coordinate) → AllColumns IsColumnIncluded x
        → IsIncludedAtTime (bound_of bounds factors c d x).range (enclosure_of answer factors t t x)
    coordinate_at_time nothing all = constant_at_time c d t (fraction (pos 0) 1) zero_interval (omega arith) (Holds-zero (fraction (pos 0) 1) refl)
    coordinate_at_time (of_column number axis) all = all
    coordinate_at_time (times f x) all =
        product_at_time c d t _ _ _ _
        (constant_at_time c d t (factors f) (factor_interval (factors f)) (fractions f) (Holds-factor_interval (factors f) (fractions f)))
        (coordinate_at_time x all)
    coordinate_at_time (plus x y) all = sum_at_time c d t _ _ _ _ (coordinate_at_time x all.0) (coordinate_at_time y all.1)
    coordinate_at_time (less x y) all = difference_at_time c d t _ _ _ _ (coordinate_at_time x all.0) (coordinate_at_time y all.1)

  module _ (bounds : Leaf → Bound) (answer : Leaf → Enclosure)
      (leaves : (l : Leaf) → IsLeaf l → IsIncludedAtTime (bounds l).range (answer l)) where
    pub term_at_time : (x : Term) → HasLeaves x → IsIncludedAtTime (term_bound bounds c d x).range (term_enclosure answer t t x)
    term_at_time (leaf l) has = leaves l has
    term_at_time (length m) has =
        constant_at_time c d t (decimal m.mant m.exp) (from_decimal m.mant m.exp distance_exponent)
        (IsFraction-decimal m.mant m.exp) (Holds-from_decimal m.mant m.exp distance_exponent)
    term_at_time (cosine m) has =
        constant_at_time c d t (decimal m.mant m.exp) (from_decimal m.mant m.exp cosine_exponent)
        (IsFraction-decimal m.mant m.exp) (Holds-from_decimal m.mant m.exp cosine_exponent)
    term_at_time (sum x y) has = sum_at_time c d t _ _ _ _ (term_at_time x has.0) (term_at_time y has.1)
    term_at_time (difference x y) has = difference_at_time c d t _ _ _ _ (term_at_time x has.0) (term_at_time y has.1)
    term_at_time (product x y) has = product_at_time c d t _ _ _ _ (term_at_time x has.0) (term_at_time y has.1)
    term_at_time (signed_square x) has = signed_square_at_time c d t _ _ (term_at_time x has)
