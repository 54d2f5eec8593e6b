-- What `find` promises of the events themselves, with no word of how they are searched for: neither tree, verdict nor interval.
-- Times are ticks of TDB since J2000. Known bytes were the first list, and are the second.
use Rattle.std.specs.Prelude.{ℤ, ℕ, List, Option}
use Rattle.std.specs.Io.KnownBytes.{Appends}
use Rattle.spec_ephemeris.specs.Ephemeris.{Ephemeris}
use Rattle.spec_ephemeris.specs.Ticks.{in_ticks}
use Rattle.spec_trees.specs.declared.tree.Turn.{Turn}
use Rattle.spec_trees.specs.declared.window.Window.{Window}
use Rattle.spec_trees.specs.Placement.{AreInOrder, AreWithin}
use Rattle.spec_events.specs.Events.{AreCertain, HoldEvents}
use Rattle.spec_searches.specs.Search.{events}
use Rattle.spec_requests.specs.declared.request.FindAsk.{FindAsk}
use Rattle.spec_output.specs.Report.{report}
use Rattle.spec_outcomes.specs.Queries.{query_of, search, span_of}

-- the windows lie after one time and up to another, disjoint and in order; each event of E in these times lies in one of them; and
-- each certain one holds exactly one event, a turn in its direction
pub record HoldAllEvents (E : Turn → ℤ → Type 0) (after upto : ℤ) (ws : List Window) : Type 0 where
  pub within : AreWithin after upto ws
  pub in_order : AreInOrder ws
  pub every_event : HoldEvents E after upto ws
  pub certain : AreCertain E ws

-- known bytes grew by the report of such windows, and by nothing else
pub record ReportsWindows (E : Turn → ℤ → Type 0) (after upto : ℤ) (report : List Window → List ℕ) (old new : Option (List ℕ)) : Type 0 where
  pub windows : List Window
  pub hold : HoldAllEvents E after upto windows
  pub printed : Appends old new (report windows)

-- they are the windows of the events that are asked for, over the span that is asked for
abbrev pub ReportsAllEvents : FindAsk → Option (List ℕ) → Option (List ℕ) → Ephemeris → Type 0
ReportsAllEvents find old new e =
    let counted = in_ticks find.tick e in
    let span = span_of find counted in
    ReportsWindows (events (search (query_of find) counted)) span.from span.upto (report find span.from span.upto) old new
