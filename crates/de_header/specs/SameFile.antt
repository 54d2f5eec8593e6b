-- A reader that wants more lines says the same in every file.
use Rattle.std.proofs.Common.{◌≡◌, ℕ, List, refl}
use Rattle.spec_files.specs.Sections.{FileLine}
use Rattle.de_header.specs.declared.state.State.{State}
use Rattle.de_header.specs.declared.state.State.TheVariants.{First, TitleGroup, Titles, Span, NameGroup, NameCount, Names, ValueGroup, ValueCount, ValuesBefore, ValuesAfter, ColumnGroup, Starts, Coefficients, Granules, EndGroup, Whole, Refused}
use Rattle.de_header.specs.Reader.{IsOpen, says}

pub same_file : (state : State) (lines : List FileLine) (f g : ℕ) → IsOpen state → says f state lines ≡ says g state lines
unfolding says
same_file First lines f g wants = refl
same_file (TitleGroup ncoeff) lines f g wants = refl
same_file (Titles ncoeff) lines f g wants = refl
same_file (Span ncoeff) lines f g wants = refl
same_file (NameGroup shape) lines f g wants = refl
same_file (NameCount shape) lines f g wants = refl
same_file (Names shape count left passed emrat) lines f g wants = refl
same_file (ValueGroup shape count emrat) lines f g wants = refl
same_file (ValueCount shape count emrat) lines f g wants = refl
same_file (ValuesBefore shape left before) lines f g wants = refl
same_file (ValuesAfter facts left) lines f g wants = refl
same_file (ColumnGroup facts) lines f g wants = refl
same_file (Starts facts) lines f g wants = refl
same_file (Coefficients facts count starts) lines f g wants = refl
same_file (Granules facts count starts coefs) lines f g wants = refl
same_file (EndGroup facts count columns) lines f g wants = refl
same_file (Whole facts count columns) lines f g wants = absurd wants
same_file (Refused fault) lines f g wants = absurd wants
