-- From which columns of an ephemeris a body comes. Columns are counted from 1.
use Rattle.std.specs.Prelude.{ℕ, ◌==◌, List, [], ◌∷◌, ◌++◌, Bool, ◌||◌}
use Rattle.std.specs.List.{filter, list_any}
use Rattle.spec_ephemeris.specs.declared.body.Body.{Body}
use Rattle.spec_ephemeris.specs.declared.body.Body.TheVariants.{Mercury, Venus, Emb, Mars, Jupiter, Saturn, Uranus, Neptune, Pluto, Moon, Sun, Earth, Ssb}
use Rattle.spec_bodies.specs.declared.source.TheConstants.{EMB_COLUMN, MOON_COLUMN, SUN_COLUMN}
use Rattle.spec_bodies.specs.declared.source.Source.{Source}
use Rattle.spec_bodies.specs.declared.source.Source.TheVariants.{OwnColumn, EarthOfPair, MoonOfPair, Origin}

abbrev pub source_of : Body → Source
source_of Mercury = OwnColumn 1
source_of Venus = OwnColumn 2
source_of Emb = OwnColumn EMB_COLUMN
source_of Mars = OwnColumn 4
source_of Jupiter = OwnColumn 5
source_of Saturn = OwnColumn 6
source_of Uranus = OwnColumn 7
source_of Neptune = OwnColumn 8
source_of Pluto = OwnColumn 9
source_of Moon = MoonOfPair
source_of Sun = OwnColumn SUN_COLUMN
source_of Earth = EarthOfPair
source_of Ssb = Origin

-- the columns that a body needs to be there
abbrev pub needed_columns : Source → List ℕ
needed_columns (OwnColumn number) = number ∷ []
needed_columns EarthOfPair = EMB_COLUMN ∷ MOON_COLUMN ∷ []
needed_columns MoonOfPair = EMB_COLUMN ∷ MOON_COLUMN ∷ []
needed_columns Origin = []

-- the columns that a target seen from an observer is made of: one of the Earth and the Moon seen from the other is read
-- from the Moon's column alone
abbrev pub used : Source → Source → List ℕ
used MoonOfPair EarthOfPair = MOON_COLUMN ∷ []
used EarthOfPair MoonOfPair = MOON_COLUMN ∷ []
used target observer = needed_columns target ++ needed_columns observer

abbrev pub body_columns : List ℕ
body_columns = 1 ∷ 2 ∷ 3 ∷ 4 ∷ 5 ∷ 6 ∷ 7 ∷ 8 ∷ 9 ∷ 10 ∷ 11 ∷ []

-- the columns in use for two targets, in order and each once
abbrev pub is_among : List ℕ → ℕ → Bool
is_among numbers number = list_any (λ n. n == number) numbers

abbrev pub is_in_use : Source → Source → Source → ℕ → Bool
is_in_use first second observer number = is_among (used first observer) number || is_among (used second observer) number

abbrev pub columns_in_use : Source → Source → Source → List ℕ
columns_in_use first second observer = filter (is_in_use first second observer) body_columns
