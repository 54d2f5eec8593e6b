-- The coordinates of a target along the axes of the frame, as steps.
use Rattle.std.proofs.Common.{◌≡◌, ◌∙◌, ap, ℕ, zero, suc, ◌<◌, ◌||◌, Bool, true, false, IsTrue, refl, sym, subst, arith}
use Rattle.event_expr.specs.declared.axes.Axes.{Axes}
use Rattle.event_expr.specs.declared.leaves.Leaves.{Leaves}
use Rattle.event_expr.specs.Leaves.{has_axis, has_leaf}
use Rattle.spec_expressions.specs.Term.{IsLeaf, Leaf, position, velocity}
use Rattle.spec_bodies.specs.declared.frame.Frame.TheVariants.{Eq, Ecl}
use Rattle.spec_bodies.specs.declared.quantity.Quantity.{Quantity}
use Rattle.spec_bodies.specs.Coordinates.{Coordinate, ecliptic_coordinate, in_frame}
use Rattle.spec_steps.specs.declared.sights.Sight.{Sight}
use Rattle.spec_steps.specs.ColumnTerms.{ColumnTerm, coordinate_of, of_coordinate, of_leaf}
use Rattle.spec_steps.specs.Parts.{IsPart}
use Rattle.spec_steps.proofs.Parts.{coordinate_seen, seen_part}
use Rattle.column_steps.specs.declared.places.AxisTable.{AxisTable}
use Rattle.column_steps.specs.declared.places.CoordinateTable.{CoordinateTable}
use Rattle.column_steps.specs.Listed.{AreListed, Enters, Grows, Listed, Stands, listed_term, step_count, turned}
use Rattle.column_steps.specs.Places.{AreAllPlaced, AreAlong, AreTargetPlaces, AxisPlaces, IsDisplaced, LeafPlaces, displacement_of, entry_along, entry_of}

-- ---- what stands for a coordinate, by the sight alone, still does so in a list that has grown
pub moved : (F : Sight → Coordinate) (a b : Listed) (n place : ℕ) (q : Quantity) → Grows a b n → Stands a place (of_coordinate q (F a.sight)) → Stands b place (of_coordinate q (F b.sight))
moved F a b n place q grown is = subst (λ s. Stands b place (of_coordinate q (F s))) (sym grown.sight) (grown.kept place _ is)

pub restated : (F : Sight → Coordinate) (a b : Listed) (n place : ℕ) (q : Quantity) → Grows a b n → Stands b place (of_coordinate q (F a.sight)) → Stands b place (of_coordinate q (F b.sight))
restated F a b n place q grown is = subst (λ s. Stands b place (of_coordinate q (F s))) (sym grown.sight) is

pub entered_displaced : (a b : Listed) (n place : ℕ) (q : Quantity) (target axis : ℕ) → Enters a b n place (of_coordinate q (displacement_of a.sight target axis)) → IsDisplaced b q target axis place
entered_displaced a b n place q target axis is = restated (λ s. displacement_of s target axis) a b n place q is.grown is.stands

pub moved_along : (a b : Listed) (n : ℕ) (q : Quantity) (target : ℕ) (wanted : Axes) (p : AxisPlaces) → Grows a b n → AreTargetPlaces a q target wanted p → AreTargetPlaces b q target wanted p
moved_along a b n q target wanted p grown are = record {
  x = λ is. moved (λ s. coordinate_of s target 0) a b n p.x q grown (are.x is);
  y = λ is. moved (λ s. coordinate_of s target 1) a b n p.y q grown (are.y is);
  z = λ is. moved (λ s. coordinate_of s target 2) a b n p.z q grown (are.z is);
}

-- ---- along the axes of the files
pub files_along : (l : Listed) (q : Quantity) (target : ℕ) (wanted : Axes) (p : AxisPlaces) → l.sight.frame ≡ Eq
    → (IsTrue wanted.x → IsDisplaced l q target 0 p.x) → (IsTrue wanted.y → IsDisplaced l q target 1 p.y) → (IsTrue wanted.z → IsDisplaced l q target 2 p.z)
    → AreTargetPlaces l q target wanted p
files_along l q target wanted p frame x y z = record { x = λ is. by 0 p.x (x is); y = λ is. by 1 p.y (y is); z = λ is. by 2 p.z (z is) }
  where
    by : (axis place : ℕ) → IsDisplaced l q target axis place → Stands l place (of_coordinate q (coordinate_of l.sight target axis))
    by axis place is = subst (λ f. Stands l place (of_coordinate q (in_frame f (displacement_of l.sight target) axis))) (sym frame) is

-- ---- along those of the ecliptic
module _ (l : Listed) (q : Quantity) (target : ℕ) (frame : l.sight.frame ≡ Ecl) where
  ecliptic_part : (axis : ℕ) → axis < 3 → IsPart l.sight (of_coordinate q (ecliptic_coordinate (displacement_of l.sight target) axis))
  ecliptic_part axis three =
      subst (λ f. IsPart l.sight (of_coordinate q (in_frame f (displacement_of l.sight target) axis))) frame (seen_part l.sight q (coordinate_of l.sight target axis) (coordinate_seen l.sight target axis three))

  pub y_listed : (y z : ℕ) → IsDisplaced l q target 1 y → IsDisplaced l q target 2 z → AreListed l y z (turned true)
  y_listed y z of_y of_z = record { first = _; second = _; of_first = of_y; of_second = of_z; part = ecliptic_part 1 (omega arith) }

  pub z_listed : (y z : ℕ) → IsDisplaced l q target 1 y → IsDisplaced l q target 2 z → AreListed l z y (turned false)
  z_listed y z of_y of_z = record { first = _; second = _; of_first = of_z; of_second = of_y; part = ecliptic_part 2 (omega arith) }

pub in_ecliptic : (l : Listed) (q : Quantity) (target axis place : ℕ) → l.sight.frame ≡ Ecl
    → Stands l place (of_coordinate q (ecliptic_coordinate (displacement_of l.sight target) axis)) → Stands l place (of_coordinate q (coordinate_of l.sight target axis))
in_ecliptic l q target axis place frame is = subst (λ f. Stands l place (of_coordinate q (in_frame f (displacement_of l.sight target) axis))) (sym frame) is

pub of_first : (a b : Bool) → IsTrue a → IsTrue (a || b)
of_first true b is = refl
of_first false b is = absurd (cc)

pub of_second : (a b : Bool) → IsTrue b → IsTrue (a || b)
of_second true b is = refl
of_second false b is = is

-- ---- the entries of the coordinates that are wanted
along : {V : Type 0} (is_entry : ℕ → V → Type 0) (axes : Axes) (t : AxisTable V) → AreAlong is_entry axes t
    → (axis : ℕ) → axis < 3 → IsTrue (has_axis axes axis) → is_entry axis (entry_along t axis)
along is_entry axes t are zero three is = are.x is
along is_entry axes t are (suc zero) three is = are.y is
along is_entry axes t are (suc (suc zero)) three is = are.z is
along is_entry axes t are (suc (suc (suc axis))) three is = absurd (omega (arith, three))

module _ {V : Type 0} (is_entry : Leaf → V → Type 0) (wanted : Leaves) (t : CoordinateTable V)
    (first_position : AreAlong (λ axis. is_entry (position 0 axis)) wanted.first_position t.first_position)
    (second_position : AreAlong (λ axis. is_entry (position 1 axis)) wanted.second_position t.second_position)
    (first_velocity : AreAlong (λ axis. is_entry (velocity 0 axis)) wanted.first_velocity t.first_velocity)
    (second_velocity : AreAlong (λ axis. is_entry (velocity 1 axis)) wanted.second_velocity t.second_velocity) where
  pub leaf_entry : (leaf : Leaf) → IsLeaf leaf → IsTrue (has_leaf wanted leaf) → is_entry leaf (entry_of t leaf)
  leaf_entry (position zero axis) is has = along _ _ _ first_position axis is.1 has
  leaf_entry (position (suc zero) axis) is has = along _ _ _ second_position axis is.1 has
  leaf_entry (position (suc (suc target)) axis) is has = let two = is.0 in absurd (omega (arith, two))
  leaf_entry (velocity zero axis) is has = along _ _ _ first_velocity axis is.1 has
  leaf_entry (velocity (suc zero) axis) is has = along _ _ _ second_velocity axis is.1 has
  leaf_entry (velocity (suc (suc target)) axis) is has = let two = is.0 in absurd (omega (arith, two))

-- ---- the step that is looked up for a coordinate
module _ (l : Listed) (p : LeafPlaces) (all : AreAllPlaced l p) (leaf : Leaf) (is : IsLeaf leaf) (k : ℕ) (found : k ≡ entry_of p leaf) where
  pub leaf_below : k < step_count l
  leaf_below = subst (λ (j : ℕ). j < step_count l) (sym found) (all leaf is).below

  leaf_term : (s : Sight) → l.sight ≡ s → listed_term l k ≡ of_leaf s leaf
  leaf_term s same = ap (listed_term l) found ∙ (all leaf is).term ∙ λ i. of_leaf (same i) leaf

  pub leaf_value : {V : Type 0} (is_value : ColumnTerm → V → Type 0) (s : Sight) → l.sight ≡ s → (r : V) → is_value (listed_term l k) r → is_value (of_leaf s leaf) r
  leaf_value is_value s same r of = subst (λ (t : ColumnTerm). is_value t r) (leaf_term s same) of
