-- The enclosure of a formula over several times is made of its mid and its step: its range is what some plain range and the
-- centred one both hold.
use Rattle.std.proofs.Common.{◌≡◌, refl, arith, ℕ, ℤ, ◌<ℤ◌, Bool, true, false}
use Rattle.std.specs.Prelude.{if◌then◌else◌}
use lib.Signed.{lt_z}
use Rattle.spec_numbers.proofs.Order.{lin}
use Rattle.spec_intervals.specs.Interval.{Interval, meet, zero_interval}
use Rattle.spec_intervals.specs.Enclosure.{Enclosure, triple, centred, enclosure, constant_of, sum_of, difference_of, product_of, signed_square_of}
use Rattle.spec_intervals.specs.Fraction.{Fraction}
use Rattle.spec_expressions.specs.Term.{Leaf, Term, leaf, length, cosine, sum, difference, product, signed_square, position as position_of, velocity as velocity_of}
use Rattle.spec_bodies.specs.declared.factor.Factor.{Factor}
use Rattle.spec_bodies.specs.declared.quantity.Quantity.{Quantity}
use Rattle.spec_bodies.specs.declared.quantity.Quantity.TheVariants.{Position, Velocity}
use Rattle.spec_bodies.specs.Coordinates.{Coordinate, nothing, of_column, times, plus, less}
use Rattle.spec_bodies.specs.Meanings.{enclosure_of}
use Rattle.spec_bodies.specs.Views.{View, coordinate_of, factor_of, column_enclosure, state_enclosure}
use Rattle.spec_searches.specs.Search.{enclosure_over}

pub record IsMade (a b : ℤ) (e : Enclosure) : Type 0 where
  pub plain : Interval
  pub range : e.range ≡ meet plain (centred a b e.mid e.step)

module _ (a b : ℤ) (ab : a <ℤ b) where
  parts_made : (mid plain step : Interval) → IsMade a b (enclosure a b mid plain step)
  unfolding enclosure
  parts_made mid plain step = by (lt_z a b) refl
    where
      by : (t : Bool) → lt_z a b ≡ t
          → IsMade a b (if t then triple mid (meet plain (centred a b mid step)) step else triple mid mid zero_interval)
      by true e = record { plain = plain; range = refl }
      by false e = absurd (omega (arith, lin))

  -- ---- the rules
  constant_made : (c : Interval) → IsMade a b (constant_of a b c)
  unfolding constant_of
  constant_made c = parts_made _ _ _

  sum_made : (x y : Enclosure) → IsMade a b (sum_of a b x y)
  unfolding sum_of
  sum_made x y = parts_made _ _ _

  difference_made : (x y : Enclosure) → IsMade a b (difference_of a b x y)
  unfolding difference_of
  difference_made x y = parts_made _ _ _

  product_made : (x y : Enclosure) → IsMade a b (product_of a b x y)
  unfolding product_of
  product_made x y = parts_made _ _ _

  signed_square_made : (x : Enclosure) → IsMade a b (signed_square_of a b x)
  unfolding signed_square_of
  signed_square_made x = parts_made _ _ _

  -- ---- coordinates and formulas
  coordinate_made : (column : ℕ → ℕ → Enclosure) (factors : Factor → Fraction)
      → ((number axis : ℕ) → IsMade a b (column number axis))
      → (x : Coordinate) → IsMade a b (enclosure_of column factors a b x)
  coordinate_made column factors columns nothing = constant_made zero_interval
  coordinate_made column factors columns (of_column number axis) = columns number axis
  coordinate_made column factors columns (times f x) = product_made _ _
  coordinate_made column factors columns (plus x y) = sum_made _ _
  coordinate_made column factors columns (less x y) = difference_made _ _

  module _ (v : View) where
    column_made : (quantity : Quantity) (number axis : ℕ) → IsMade a b (column_enclosure v quantity a b number axis)
    column_made quantity number axis = parts_made _ _ _

    leaf_made : (l : Leaf) → IsMade a b (state_enclosure v l a b)
    leaf_made (position_of target axis) =
        coordinate_made (column_enclosure v Position a b) (factor_of v) (column_made Position) (coordinate_of v target axis)
    leaf_made (velocity_of target axis) =
        coordinate_made (column_enclosure v Velocity a b) (factor_of v) (column_made Velocity) (coordinate_of v target axis)

    pub formula_made : (x : Term) → IsMade a b (enclosure_over (state_enclosure v) x a b)
    formula_made (leaf l) = leaf_made l
    formula_made (length d) = constant_made _
    formula_made (cosine d) = constant_made _
    formula_made (sum x y) = sum_made _ _
    formula_made (difference x y) = difference_made _ _
    formula_made (product x y) = product_made _ _
    formula_made (signed_square x) = signed_square_made _
