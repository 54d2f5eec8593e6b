-- Which terms may stand in a list of steps for a sight: formulas, coordinates of the targets, and the parts of both.
use Rattle.std.specs.Prelude.{◌≡◌, ◌⊎◌, ℕ, ◌<◌, Contains}
use Rattle.spec_expressions.specs.Term.{IsFormula, Term}
use Rattle.spec_bodies.specs.declared.quantity.Quantity.{Quantity}
use Rattle.spec_bodies.specs.Coordinates.{Coordinate}
use Rattle.spec_bodies.specs.Reading.{AllColumns, IsShort}
use Rattle.spec_bodies.specs.Sources.{used}
use Rattle.spec_steps.specs.declared.sights.Sight.{Sight}
use Rattle.spec_steps.specs.ColumnTerms.{ColumnTerm, of_coordinate, of_term}

-- one of the targets is made of the column, and there is such an axis
pub record IsSeenColumn (s : Sight) (number axis : ℕ) : Type 0 where
  pub listed : Contains (used s.first s.observer) number ⊎ Contains (used s.second s.observer) number
  pub along : axis < 3

-- a coordinate's formula, or a part of one: not too many factors and sums one within the other
pub record IsSeen (s : Sight) (c : Coordinate) : Type 0 where
  pub columns : AllColumns (IsSeenColumn s) c
  pub short : IsShort c

pub record IsCoordinatePart (s : Sight) (t : ColumnTerm) : Type 0 where
  pub quantity : Quantity
  pub coordinate : Coordinate
  pub seen : IsSeen s coordinate
  pub term : of_coordinate quantity coordinate ≡ t

pub record IsFormulaPart (s : Sight) (t : ColumnTerm) : Type 0 where
  pub whole : Term
  pub formula : IsFormula whole
  pub term : of_term s whole ≡ t

abbrev pub IsPart : Sight → ColumnTerm → Type 0
IsPart s t = IsCoordinatePart s t ⊎ IsFormulaPart s t
