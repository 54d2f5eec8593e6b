-- What is searched for, and over which times: what the words of `find` ask of an ephemeris, and the search of a generated
-- text.
use Rattle.std.specs.Prelude.{◌≤◌, ◌≤ℤ◌, ◌&&◌, Bool, int_le, int_lt, pos, unsigned_abs, unwrap_or, List, Some}
use Rattle.spec_ephemeris.specs.declared.body.Body.TheVariants.{Mercury, Venus, Earth}
use Rattle.spec_ephemeris.specs.Ephemeris.{Ephemeris, end_of}
use Rattle.spec_bodies.specs.declared.frame.Frame.TheVariants.{Eq}
use Rattle.spec_trees.specs.declared.cuts.CutRule.TheVariants.{Half}
use Rattle.spec_events.specs.declared.dir.Dir.TheVariants.{Any}
use Rattle.spec_kinds.specs.declared.kind.Kind.TheVariants.{Conj}
use Rattle.spec_requests.specs.Requests.{nought}
use Rattle.spec_trees.specs.declared.tree.Leaf.{Leaf}
use Rattle.spec_trees.specs.declared.tree.Node.{Node}
use Rattle.spec_trees.specs.declared.window.Window.{Window}
use Rattle.spec_trees.specs.Windows.{windows}
use Rattle.spec_events.specs.Events.{AreWindows}
use Rattle.spec_searches.specs.declared.limits.TheConstants.{MAX_DEPTH, MAX_WIDTH}
use Rattle.spec_searches.specs.Search.{Search, events}
use Rattle.spec_searches.specs.Found.{IsLeftUndecided, leaves_of}
use Rattle.spec_kinds.specs.Asks.{IsAsk}
use Rattle.spec_kinds.specs.Searches.{search_of}
use Rattle.spec_requests.specs.declared.request.FindAsk.{FindAsk}
use Rattle.spec_outcomes.specs.declared.query.Query.{Query}
use Rattle.spec_outcomes.specs.declared.query.Span.{Span}

pub record IsQuery (q : Query) : Type 0 where
  pub ask : IsAsk q.ask
  pub some_width : pos 1 ≤ℤ q.width
  pub width : q.width ≤ℤ pos MAX_WIDTH
  pub depth : q.depth ≤ MAX_DEPTH

abbrev pub query_of : FindAsk → Query
query_of find = record { ask = find.ask; width = find.width; depth = find.depth; cut = find.cut }

-- the search of an ephemeris
abbrev pub search : Query → Ephemeris → Search
search q e = search_of e q.ask (unsigned_abs q.width) q.depth q.cut

-- the search of a generated text: for the conjunctions of Mercury and Venus seen from the Earth, with every option at its
-- default
abbrev pub conjunctions : Query
conjunctions = record {
  ask = record { kind = Conj; target = Mercury; second = Some Venus; observer = Earth; frame = Eq; axis = 0; value1 = nought; value2 = nought; dir = Any };
  width = pos 1;
  depth = 40;
  cut = Half;
}

-- ---- spans: the times after one and up to another
abbrev pub whole_span : Ephemeris → Span
whole_span e = record { from = e.start; upto = end_of e }

-- the ephemeris begins or ends the span where the words do not
abbrev pub span_of : FindAsk → Ephemeris → Span
span_of find e = record { from = unwrap_or find.from e.start; upto = unwrap_or find.to (end_of e) }

-- the span holds a time, and lies within the ephemeris
abbrev pub is_within : Span → Ephemeris → Bool
is_within span e = int_le e.start span.from && (int_lt span.from span.upto && int_le span.upto (end_of e))

-- ---- leaves and windows
abbrev pub leaves_in : Search → Span → List Leaf
leaves_in s span = leaves_of s span.from span.upto

abbrev pub windows_in : Search → Span → List Window
windows_in s span = windows (leaves_in s span)

-- an undecided leaf of the tree of the search over a span
abbrev pub IsLeft : Search → Span → Node → Type 0
IsLeft s span = IsLeftUndecided s (leaves_in s span)

-- the windows of leaves are those of a search's events in a span
abbrev pub AreFound : Search → Span → List Leaf → Type 0
AreFound s span ls = AreWindows (events s) (IsLeftUndecided s ls) span.from span.upto (windows ls)
