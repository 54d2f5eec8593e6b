-- What the texts of files come to: an ephemeris, or the first fault with the number of its file, counted from 0.
use Rattle.std.specs.Prelude.{ℕ, List, Option, None, Some, Result, Ok, Err}
use Rattle.spec_text.specs.declared.decimals.Fault.{Fault}
use Rattle.spec_ephemeris.specs.Ephemeris.{Ephemeris}
use Rattle.spec_files.specs.Sections.{Stop, ended, breaks}
use Rattle.spec_files.specs.Lines.{ephemeris}
use Rattle.spec_files.specs.Texts.{at_end, first_cut, joined}

-- a line that breaks a rule comes before the text that cannot be read to its end
abbrev pub fault_or_cut : Option (ℕ × Fault) → Result Ephemeris Stop → Option (ℕ × Fault)
fault_or_cut cut (Ok e) = cut
fault_or_cut cut (Err (ended number)) = cut
fault_or_cut cut (Err (breaks file fault)) = Some (file, fault)

-- the first fault that texts have whatever texts follow: it is not that they end too early
unfoldable pub first_fault : List (List ℕ) → Option (ℕ × Fault)
first_fault texts = fault_or_cut (first_cut texts) (ephemeris (joined texts))

abbrev pub outcome_by : Option (ℕ × Fault) → List (List ℕ) → Result Ephemeris Stop → Result Ephemeris (ℕ × Fault)
outcome_by (Some fault) texts said = Err fault
outcome_by None texts (Ok e) = Ok e
outcome_by None texts (Err (ended number)) = Err (at_end texts number)
outcome_by None texts (Err (breaks file fault)) = Err (file, fault)

-- the ephemeris of the texts of all files, or their first fault
unfoldable pub outcome : List (List ℕ) → Result Ephemeris (ℕ × Fault)
outcome texts = outcome_by (first_fault texts) texts (ephemeris (joined texts))
