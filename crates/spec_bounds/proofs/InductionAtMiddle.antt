-- By induction, the enclosure of a coordinate, and of a term, at one time has the mid of that over a span for its range, where
-- those of its parts do.
use Rattle.std.proofs.Common.{ℕ, ℤ}
use Rattle.spec_intervals.specs.Enclosure.{Enclosure}
use Rattle.spec_intervals.specs.Fraction.{Fraction}
use Rattle.spec_intervals.specs.Interval.{zero_interval, from_decimal, distance_exponent, cosine_exponent}
use Rattle.spec_expressions.specs.Term.{Leaf, Term, leaf, length, cosine, sum, difference, product, signed_square, IsLeaf, HasLeaves, enclosure_of as term_enclosure}
use Rattle.spec_bodies.specs.declared.factor.Factor.{Factor}
use Rattle.spec_bodies.specs.Coordinates.{Coordinate, nothing, of_column, times, plus, less}
use Rattle.spec_bodies.specs.Meanings.{factor_interval, enclosure_of}
use Rattle.spec_bodies.specs.Reading.{AllColumns}
use Rattle.spec_bounds.proofs.RulesAtMiddle.{IsMidOf, constant_at_middle, sum_at_middle, difference_at_middle, product_at_middle, signed_square_at_middle}

-- the times from a to b, and one time
module _ (a b t : ℤ) where
  module _ (over at_time : ℕ → ℕ → Enclosure) (factors : Factor → Fraction) where
    abbrev IsMidOfColumn : ℕ → ℕ → Type 0
    IsMidOfColumn number axis = IsMidOf (over number axis) (at_time number axis)

    pub coordinate_at_middle : (x : Coordinate) → AllColumns IsMidOfColumn x
        → IsMidOf (enclosure_of over factors a b x) (enclosure_of at_time factors t t x)
    coordinate_at_middle nothing all = constant_at_middle a b t zero_interval
    coordinate_at_middle (of_column number axis) all = all
    coordinate_at_middle (times f x) all =
        product_at_middle a b t _ _ _ _ (constant_at_middle a b t (factor_interval (factors f))) (coordinate_at_middle x all)
    coordinate_at_middle (plus x y) all = sum_at_middle a b t _ _ _ _ (coordinate_at_middle x all.0) (coordinate_at_middle y all.1)
    coordinate_at_middle (less x y) all = difference_at_middle a b t _ _ _ _ (coordinate_at_middle x all.0) (coordinate_at_middle y all.1)

  module _ (over at_time : Leaf → Enclosure) (leaves : (l : Leaf) → IsLeaf l → IsMidOf (over l) (at_time l)) where
    pub term_at_middle : (x : Term) → HasLeaves x → IsMidOf (term_enclosure over a b x) (term_enclosure at_time t t x)
    term_at_middle (leaf l) has = leaves l has
    term_at_middle (length d) has = constant_at_middle a b t (from_decimal d.mant d.exp distance_exponent)
    term_at_middle (cosine d) has = constant_at_middle a b t (from_decimal d.mant d.exp cosine_exponent)
    term_at_middle (sum x y) has = sum_at_middle a b t _ _ _ _ (term_at_middle x has.0) (term_at_middle y has.1)
    term_at_middle (difference x y) has = difference_at_middle a b t _ _ _ _ (term_at_middle x has.0) (term_at_middle y has.1)
    term_at_middle (product x y) has = product_at_middle a b t _ _ _ _ (term_at_middle x has.0) (term_at_middle y has.1)
    term_at_middle (signed_square x) has = signed_square_at_middle a b t _ _ (term_at_middle x has)
