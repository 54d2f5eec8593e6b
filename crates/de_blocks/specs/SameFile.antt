-- A reader that met no fault says the same in every file.
use Rattle.std.proofs.Common.{◌≡◌, ℕ, List, refl}
use Rattle.spec_text.specs.declared.decimals.Decimal.{Decimal}
use Rattle.spec_ephemeris.specs.Ephemeris.{Ephemeris}
use Rattle.spec_files.specs.Sections.{FileLine}
use Rattle.de_blocks.specs.declared.state.Place.{Place}
use Rattle.de_blocks.specs.declared.state.Place.TheVariants.{Between, Inside, Refused}
use Rattle.de_blocks.specs.Reader.{IsNotRefused, IsUnrefusedPlace, Progress, says, says_at}

same_at : (place : Place) (before : Ephemeris) (numbers : List Decimal) (lines : List FileLine) (f g : ℕ) → IsUnrefusedPlace place
    → says_at f place before numbers lines ≡ says_at g place before numbers lines
same_at Between before numbers lines f g going = refl
same_at Inside before numbers lines f g going = refl
same_at (Refused fault) before numbers lines f g going = absurd going

pub same_file : (reader : Progress) (lines : List FileLine) (f g : ℕ) → IsNotRefused reader → says f reader lines ≡ says g reader lines
unfolding says
same_file reader lines f g going = same_at reader.place reader.accepted reader.numbers lines f g going
