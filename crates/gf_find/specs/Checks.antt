-- What `check` reports: the summary of an ephemeris. Known bytes were the first list, and are the second.
use Rattle.std.specs.Prelude.{ℕ, List, Option}
use Rattle.std.specs.Io.KnownBytes.{Appends}
use Rattle.spec_ephemeris.specs.Ephemeris.{Ephemeris}
use Rattle.spec_output.specs.Summary.{summary}

abbrev pub ReportsSummary : Option (List ℕ) → Option (List ℕ) → Ephemeris → Type 0
ReportsSummary old new e = Appends old new (summary e)
