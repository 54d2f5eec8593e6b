-- How a body is seen from a column, and from the barycentre of the solar system.
use Rattle.std.proofs.Common.{◌≡◌, ◌∙◌, ◌≤◌, ℕ, arith, refl, subst, sym, ap}
use Rattle.spec_bodies.specs.declared.quantity.Quantity.{Quantity}
use Rattle.spec_bodies.specs.declared.source.Source.{Source}
use Rattle.spec_bodies.specs.declared.source.Source.TheVariants.{OwnColumn, EarthOfPair, MoonOfPair, Origin}
use Rattle.spec_bodies.specs.Coordinates.{Coordinate, barycentric_coordinate, displacement, less}
use Rattle.spec_steps.specs.declared.sights.Sight.{Sight}
use Rattle.spec_steps.specs.ColumnTerms.{of_coordinate, target_of}
use Rattle.column_steps.specs.Listed.{Enters, Listed}
use Rattle.column_steps.specs.Places.{displacement_of, steps_of}

pub column_apart : (source : Source) (number axis : ℕ) → displacement source (OwnColumn number) axis ≡ less (barycentric_coordinate source axis) (barycentric_coordinate (OwnColumn number) axis)
column_apart (OwnColumn m) number axis = refl
column_apart EarthOfPair number axis = refl
column_apart MoonOfPair number axis = refl
column_apart Origin number axis = refl

pub origin_apart : (source : Source) (axis : ℕ) → displacement source Origin axis ≡ barycentric_coordinate source axis
origin_apart (OwnColumn m) axis = refl
origin_apart EarthOfPair axis = refl
origin_apart MoonOfPair axis = refl
origin_apart Origin axis = refl

pub few_steps : (source : Source) → steps_of source ≤ 6
few_steps (OwnColumn m) = omega arith
few_steps EarthOfPair = omega arith
few_steps MoonOfPair = omega arith
few_steps Origin = omega arith

-- a step for a coordinate is one for what the coordinate is
pub entered_as : (a b : Listed) (n place : ℕ) (q : Quantity) (c d : Coordinate) → d ≡ c → Enters a b n place (of_coordinate q c) → Enters a b n place (of_coordinate q d)
entered_as a b n place q c d same is = subst (λ x. Enters a b n place (of_coordinate q x)) (sym same) is

-- a target seen from the observer, by what both are known to be
pub told_apart : (l : Listed) (s : Sight) → s ≡ l.sight → (target axis : ℕ) (source observer : Source) → source ≡ target_of s target → s.observer ≡ observer
    → displacement_of l.sight target axis ≡ displacement source observer axis
told_apart l s view target axis source observer is_source is_observer =
    ap (λ (t : Sight). displacement_of t target axis) (sym view) ∙ (λ i. displacement (sym is_source i) (is_observer i) axis)
