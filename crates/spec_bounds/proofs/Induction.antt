-- By induction, the bound of a coordinate, and of a term, includes the enclosure of it, where those of its parts do.
use Rattle.std.proofs.Common.{ℕ, refl, arith, ℤ, pos, ◌≤ℤ◌, ◌<ℤ◌}
use Rattle.spec_intervals.proofs.Compare.{Holds-zero}
use Rattle.spec_intervals.proofs.Decimals.{Holds-from_decimal}
use Rattle.spec_intervals.specs.Interval.{zero_interval, from_decimal, distance_exponent, cosine_exponent}
use Rattle.spec_intervals.specs.Fraction.{Fraction, IsFraction, fraction, decimal}
use Rattle.spec_intervals.specs.Enclosure.{Enclosure}
use Rattle.spec_expressions.specs.Term.{Leaf, Term, leaf, length, cosine, sum, difference, product, signed_square, IsLeaf, HasLeaves, exact_of as exact_term, enclosure_of as term_enclosure}
use Rattle.spec_expressions.proofs.Induction.{IsFraction-decimal}
use Rattle.spec_bodies.specs.declared.factor.Factor.{Factor}
use Rattle.spec_bodies.specs.Coordinates.{Coordinate, nothing, of_column, times, plus, less}
use Rattle.spec_bodies.specs.Reading.{AllColumns}
use Rattle.spec_bodies.specs.Meanings.{factor_interval, exact_of, enclosure_of}
use Rattle.spec_bodies.proofs.Formulas.{Holds-factor_interval}
use Rattle.spec_models.specs.Bounds.{Bound}
use Rattle.spec_bounds.specs.Terms.{bound_of, term_bound}
use Rattle.spec_bounds.proofs.Rules.{IsIncluded, constant_included, sum_included, difference_included, product_included, signed_square_included}

module _ (a b c d : ℤ) (ca : c ≤ℤ a) (ab : a <ℤ b) (bd : b ≤ℤ d) where
  module _ (column : ℕ → ℕ → ℤ → Fraction) (bounds : ℕ → ℕ → Bound) (answer : ℕ → ℕ → Enclosure) (factors : Factor → Fraction)
      (fractions : (f : Factor) → IsFraction (factors f)) where
    abbrev IsColumnIncluded : ℕ → ℕ → Type 0
    IsColumnIncluded number axis = IsIncluded (column number axis) a b (bounds number axis) (answer number axis)

    pub coordinate_included : (x : Coordinate) → AllColumns IsColumnIncluded x
        → IsIncluded (exact_of column factors x) a b (bound_of bounds factors c d x) (enclosure_of answer factors a b x)
    coordinate_included nothing all = constant_included a b c d ca ab bd (fraction (pos 0) 1) zero_interval (omega arith) (Holds-zero (fraction (pos 0) 1) refl)
    coordinate_included (of_column number axis) all = all
    coordinate_included (times f x) all =
        product_included a b c d ca ab bd (λ t. factors f) (exact_of column factors x) _ _ _ _
        (constant_included a b c d ca ab bd (factors f) (factor_interval (factors f)) (fractions f) (Holds-factor_interval (factors f) (fractions f)))
        (coordinate_included x all)
    coordinate_included (plus x y) all = sum_included a b c d ca ab bd _ _ _ _ _ _ (coordinate_included x all.0) (coordinate_included y all.1)
    coordinate_included (less x y) all = difference_included a b c d ca ab bd _ _ _ _ _ _ (coordinate_included x all.0) (coordinate_included y all.1)

  module _ (exact : Leaf → ℤ → Fraction) (bounds : Leaf → Bound) (answer : Leaf → Enclosure)
      (leaves : (l : Leaf) → IsLeaf l → IsIncluded (exact l) a b (bounds l) (answer l)) where
    pub term_included : (x : Term) → HasLeaves x → IsIncluded (exact_term exact x) a b (term_bound bounds c d x) (term_enclosure answer a b x)
    term_included (leaf l) has = leaves l has
    term_included (length m) has =
        constant_included a b c d ca ab bd (decimal m.mant m.exp) (from_decimal m.mant m.exp distance_exponent)
        (IsFraction-decimal m.mant m.exp) (Holds-from_decimal m.mant m.exp distance_exponent)
    term_included (cosine m) has =
        constant_included a b c d ca ab bd (decimal m.mant m.exp) (from_decimal m.mant m.exp cosine_exponent)
        (IsFraction-decimal m.mant m.exp) (Holds-from_decimal m.mant m.exp cosine_exponent)
    term_included (sum x y) has = sum_included a b c d ca ab bd _ _ _ _ _ _ (term_included x has.0) (term_included y has.1)
    term_included (difference x y) has = difference_included a b c d ca ab bd _ _ _ _ _ _ (term_included x has.0) (term_included y has.1)
    term_included (product x y) has = product_included a b c d ca ab bd _ _ _ _ _ _ (term_included x has.0) (term_included y has.1)
    term_included (signed_square x) has = signed_square_included a b c d ca ab bd _ _ _ (term_included x has)
