-- Tables with an entry for each coordinate of the targets, and the steps that stand for coordinates.
use Rattle.std.specs.Prelude.{ℕ, zero, suc, ◌<◌, IsTrue}
use Rattle.event_expr.specs.declared.axes.Axes.{Axes}
use Rattle.event_expr.specs.Leaves.{Names}
use Rattle.spec_expressions.specs.Term.{IsLeaf, Leaf, Term, position, velocity}
use Rattle.spec_bodies.specs.declared.quantity.Quantity.{Quantity}
use Rattle.spec_bodies.specs.declared.source.Source.{Source}
use Rattle.spec_bodies.specs.declared.source.Source.TheVariants.{OwnColumn, EarthOfPair, MoonOfPair, Origin}
use Rattle.spec_bodies.specs.Coordinates.{Coordinate, displacement}
use Rattle.spec_steps.specs.declared.sights.Sight.{Sight}
use Rattle.spec_steps.specs.ColumnTerms.{ColumnTerm, coordinate_of, of_coordinate, of_leaf, target_of}
use Rattle.column_steps.specs.declared.places.AxisTable.{AxisTable}
use Rattle.column_steps.specs.declared.places.CoordinateTable.{CoordinateTable}
use Rattle.column_steps.specs.Listed.{Listed, Stands, listed_term, step_count}

abbrev pub entry_along : {V : Type 0} → AxisTable V → ℕ → V
entry_along t zero = t.x
entry_along t (suc zero) = t.y
entry_along t (suc (suc axis)) = t.z

abbrev pub entry_of : {V : Type 0} → CoordinateTable V → Leaf → V
entry_of t (position zero axis) = entry_along t.first_position axis
entry_of t (position (suc target) axis) = entry_along t.second_position axis
entry_of t (velocity zero axis) = entry_along t.first_velocity axis
entry_of t (velocity (suc target) axis) = entry_along t.second_velocity axis

-- along each wanted axis the entry is one of the axis
pub record AreAlong {V : Type 0} (is_entry : ℕ → V → Type 0) (wanted : Axes) (t : AxisTable V) : Type 0 where
  pub x : IsTrue wanted.x → is_entry 0 t.x
  pub y : IsTrue wanted.y → is_entry 1 t.y
  pub z : IsTrue wanted.z → is_entry 2 t.z

-- the numbers of steps as entries
abbrev pub AxisPlaces : Type 0
AxisPlaces = AxisTable ℕ

abbrev pub LeafPlaces : Type 0
LeafPlaces = CoordinateTable ℕ

-- relative to the observer, along an axis of the files
abbrev pub displacement_of : Sight → ℕ → ℕ → Coordinate
displacement_of s target axis = displacement (target_of s target) s.observer axis

-- how many steps a source takes at most, relative to the barycentre of the solar system
abbrev pub steps_of : Source → ℕ
steps_of (OwnColumn number) = 1
steps_of EarthOfPair = 4
steps_of MoonOfPair = 6
steps_of Origin = 1

abbrev pub IsDisplaced : Listed → Quantity → ℕ → ℕ → ℕ → Type 0
IsDisplaced l q target axis place = Stands l place (of_coordinate q (displacement_of l.sight target axis))

-- along each wanted axis a step stands for the coordinate of a target, in the frame
abbrev pub AreTargetPlaces : Listed → Quantity → ℕ → Axes → AxisPlaces → Type 0
AreTargetPlaces l q target wanted p = AreAlong (λ axis place. Stands l place (of_coordinate q (coordinate_of l.sight target axis))) wanted p

-- for each coordinate that a term names a step stands
abbrev pub ArePlaced : Listed → LeafPlaces → Term → Type 0
ArePlaced l p e = (leaf : Leaf) → IsLeaf leaf → Names e leaf → Stands l (entry_of p leaf) (of_leaf l.sight leaf)

-- for each coordinate of both targets one stands
abbrev pub AreAllPlaced : Listed → LeafPlaces → Type 0
AreAllPlaced l p = (leaf : Leaf) → IsLeaf leaf → Stands l (entry_of p leaf) (of_leaf l.sight leaf)

-- ---- values as entries
-- the numbers are those of steps
abbrev pub AreSteps : Listed → AxisPlaces → Type 0
AreSteps l p = (axis : ℕ) → axis < 3 → entry_along p axis < step_count l

-- along each wanted axis the value is that of the step with the number there
abbrev pub AreStepValues : {V : Type 0} → (ColumnTerm → V → Type 0) → Listed → AxisPlaces → Axes → AxisTable V → Type 0
AreStepValues is_value l p wanted values = AreAlong (λ axis. is_value (listed_term l (entry_along p axis))) wanted values

-- each coordinate that a term names has its value
abbrev pub AreNamedValues : {V : Type 0} → (ColumnTerm → V → Type 0) → Sight → CoordinateTable V → Term → Type 0
AreNamedValues is_value s values e = (leaf : Leaf) → IsLeaf leaf → Names e leaf → is_value (of_leaf s leaf) (entry_of values leaf)
