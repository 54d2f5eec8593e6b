-- The coordinates of a body seen from another, as formulas over the coordinates of columns.
-- Axes are counted from 0: x, y and z.
use Rattle.std.specs.Prelude.{ℕ, zero, suc}
use Rattle.spec_bodies.specs.declared.factor.Factor.{Factor}
use Rattle.spec_bodies.specs.declared.factor.Factor.TheVariants.{MoonShare, Cosine, Sine}
use Rattle.spec_bodies.specs.declared.frame.Frame.{Frame}
use Rattle.spec_bodies.specs.declared.frame.Frame.TheVariants.{Eq, Ecl}
use Rattle.spec_bodies.specs.declared.source.Source.{Source}
use Rattle.spec_bodies.specs.declared.source.Source.TheVariants.{OwnColumn, EarthOfPair, MoonOfPair, Origin}
use Rattle.spec_bodies.specs.declared.source.TheConstants.{EMB_COLUMN, MOON_COLUMN}

pub data Coordinate : Type 0 where
  nothing : Coordinate
  of_column : (number axis : ℕ) → Coordinate
  times : Factor → Coordinate → Coordinate
  plus : Coordinate → Coordinate → Coordinate
  less : Coordinate → Coordinate → Coordinate

-- ---- relative to the barycentre of the solar system
abbrev pub earth : ℕ → Coordinate
earth axis = less (of_column EMB_COLUMN axis) (times MoonShare (of_column MOON_COLUMN axis))

abbrev pub moon : ℕ → Coordinate
moon axis = plus (earth axis) (of_column MOON_COLUMN axis)

abbrev pub barycentric_coordinate : Source → ℕ → Coordinate
barycentric_coordinate (OwnColumn number) axis = of_column number axis
barycentric_coordinate EarthOfPair axis = earth axis
barycentric_coordinate MoonOfPair axis = moon axis
barycentric_coordinate Origin axis = nothing

-- ---- relative to an observer: the barycentre of the solar system subtracts nothing, and one of the Earth and the Moon
-- seen from the other is read from the Moon's column itself
abbrev pub displacement : Source → Source → ℕ → Coordinate
displacement MoonOfPair EarthOfPair axis = of_column MOON_COLUMN axis
displacement EarthOfPair MoonOfPair axis = less nothing (of_column MOON_COLUMN axis)
displacement target Origin axis = barycentric_coordinate target axis
displacement target observer axis = less (barycentric_coordinate target axis) (barycentric_coordinate observer axis)

-- ---- in a frame: the ecliptic has y' = c y + s z and z' = c z - s y
abbrev pub ecliptic_coordinate : (ℕ → Coordinate) → ℕ → Coordinate
ecliptic_coordinate own zero = own 0
ecliptic_coordinate own (suc zero) = plus (times Cosine (own 1)) (times Sine (own 2))
ecliptic_coordinate own (suc (suc axis)) = less (times Cosine (own 2)) (times Sine (own 1))

abbrev pub in_frame : Frame → (ℕ → Coordinate) → ℕ → Coordinate
in_frame Eq own = own
in_frame Ecl own = ecliptic_coordinate own

-- a coordinate of a target seen from an observer, in a frame
abbrev pub coordinate : Source → Source → Frame → ℕ → Coordinate
coordinate target observer frame = in_frame frame (displacement target observer)
