-- Sights and steps of the worked examples.
use Rattle.std.specs.Prelude.{◌∷◌, [], List}
use Rattle.spec_bodies.specs.declared.factor.Factor.TheVariants.{MoonShare}
use Rattle.spec_bodies.specs.declared.quantity.Quantity.TheVariants.{Position}
use Rattle.spec_bodies.specs.declared.frame.Frame.TheVariants.{Eq, Ecl}
use Rattle.spec_bodies.specs.declared.source.Source.TheVariants.{OwnColumn, EarthOfPair, MoonOfPair}
use Rattle.spec_steps.specs.declared.sights.Sight.{Sight}
use Rattle.spec_steps.specs.declared.steps.Step.{Step}
use Rattle.spec_steps.specs.declared.steps.Step.TheVariants.{Column, Scaled, Difference}

-- the Earth and Mars from the Moon, along the axes of the files
abbrev pub from_the_moon : Sight
from_the_moon = record { first = EarthOfPair; second = OwnColumn 4; observer = MoonOfPair; frame = Eq }

-- the Sun and Mars from the Earth, along those of the ecliptic
abbrev pub from_the_earth : Sight
from_the_earth = record { first = OwnColumn 11; second = OwnColumn 4; observer = EarthOfPair; frame = Ecl }

-- the Earth's x by steps
abbrev pub earth_steps : List Step
earth_steps = Column Position 3 0 ∷ Column Position 10 0 ∷ Scaled MoonShare 1 ∷ Difference 0 2 ∷ []
