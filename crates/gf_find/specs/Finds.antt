-- What `find` reports: the windows of the events that are asked for, over the span that is asked for. Times are ticks. Known
-- bytes were the first list, and are the second.
use Rattle.std.specs.Prelude.{◌≡◌, ℕ, List, Option, Ok}
use Rattle.spec_ephemeris.specs.Ephemeris.{Ephemeris}
use Rattle.spec_ephemeris.specs.Ticks.{in_ticks}
use Rattle.spec_searches.specs.Search.{events}
use Rattle.spec_requests.specs.declared.request.FindAsk.{FindAsk}
use Rattle.spec_output.specs.Report.{report}
use Rattle.spec_output.specs.Runs.{Reports}
use Rattle.spec_outcomes.specs.Outcomes.{counted_report}
use Rattle.spec_outcomes.specs.Queries.{AreFound, IsLeft, leaves_in, query_of, search, span_of, windows_in}

-- the report of a search over an ephemeris that counts its ticks
pub record IsCountedReport (find : FindAsk) (text : List ℕ) (e : Ephemeris) : Type 0 where
  pub outcome : counted_report find e ≡ Ok text
  pub printed : text ≡ report find (span_of find e).from (span_of find e).upto (windows_in (search (query_of find) e) (span_of find e))
  pub windows : AreFound (search (query_of find) e) (span_of find e) (leaves_in (search (query_of find) e) (span_of find e))

-- the same over the ephemeris of its files, which counts seconds
abbrev pub IsReport : FindAsk → List ℕ → Ephemeris → Type 0
IsReport find text e = IsCountedReport find text (in_ticks find.tick e)

-- it was written
abbrev pub ReportsEvents : FindAsk → Option (List ℕ) → Option (List ℕ) → Ephemeris → Type 0
ReportsEvents find old new e =
    let counted = in_ticks find.tick e in
    let s = search (query_of find) counted in
    let span = span_of find counted in
    Reports (events s) (IsLeft s span) span.from span.upto (windows_in s span) (report find span.from span.upto) old new
