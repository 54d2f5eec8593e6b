-- Formulas down to the columns: each coordinate of a target is replaced by its formula over the coordinates of columns.
use Rattle.std.specs.Prelude.{ℕ, zero, suc}
use Rattle.spec_text.specs.declared.decimals.Decimal.{Decimal}
use Rattle.spec_expressions.specs.Term.{Leaf, Term, leaf, position, velocity, length as length_of, cosine as cosine_of, sum as sum_of, difference as difference_of, product as product_of, signed_square as signed_square_of}
use Rattle.spec_bodies.specs.declared.factor.Factor.{Factor}
use Rattle.spec_bodies.specs.declared.quantity.Quantity.{Quantity}
use Rattle.spec_bodies.specs.declared.quantity.Quantity.TheVariants.{Position, Velocity}
use Rattle.spec_bodies.specs.declared.source.Source.{Source}
use Rattle.spec_bodies.specs.Coordinates.{Coordinate, nothing, of_column, times, plus, less, coordinate}
use Rattle.spec_bodies.specs.Views.{View}
use Rattle.spec_steps.specs.declared.sights.Sight.{Sight}

-- a polynomial of the coordinates of columns, of factors and of constants, with the order of its operations
pub data ColumnTerm : Type 0 where
  column : Quantity → (number axis : ℕ) → ColumnTerm
  zero_term : ColumnTerm
  length : Decimal → ColumnTerm
  cosine : Decimal → ColumnTerm
  scaled : Factor → ColumnTerm → ColumnTerm
  sum : ColumnTerm → ColumnTerm → ColumnTerm
  difference : ColumnTerm → ColumnTerm → ColumnTerm
  product : ColumnTerm → ColumnTerm → ColumnTerm
  signed_square : ColumnTerm → ColumnTerm

-- ---- what is seen, without the ephemeris
abbrev pub sight_of : View → Sight
sight_of v = record { first = v.first; second = v.second; observer = v.observer; frame = v.frame }

abbrev pub target_of : Sight → ℕ → Source
target_of s zero = s.first
target_of s (suc target) = s.second

-- a coordinate of a target, as the observer sees it in the frame
abbrev pub coordinate_of : Sight → ℕ → ℕ → Coordinate
coordinate_of s target = coordinate (target_of s target) s.observer s.frame

-- ---- the terms of coordinates, of leaves and of formulas
abbrev pub of_coordinate : Quantity → Coordinate → ColumnTerm
of_coordinate q nothing = zero_term
of_coordinate q (of_column number axis) = column q number axis
of_coordinate q (times f x) = scaled f (of_coordinate q x)
of_coordinate q (plus x y) = sum (of_coordinate q x) (of_coordinate q y)
of_coordinate q (less x y) = difference (of_coordinate q x) (of_coordinate q y)

abbrev pub of_leaf : Sight → Leaf → ColumnTerm
of_leaf s (position target axis) = of_coordinate Position (coordinate_of s target axis)
of_leaf s (velocity target axis) = of_coordinate Velocity (coordinate_of s target axis)

abbrev pub of_term : Sight → Term → ColumnTerm
of_term s (leaf l) = of_leaf s l
of_term s (length_of d) = length d
of_term s (cosine_of d) = cosine d
of_term s (sum_of x y) = sum (of_term s x) (of_term s y)
of_term s (difference_of x y) = difference (of_term s x) (of_term s y)
of_term s (product_of x y) = product (of_term s x) (of_term s y)
of_term s (signed_square_of x) = signed_square (of_term s x)
