-- What a run over an ephemeris comes to: the text that it writes to its output, or the cause why it has none. The causes
-- stand in the order in which they are looked for: the span, the event, the leaves of the search.
use Rattle.std.specs.Prelude.{◌≡◌, ◌⊎◌, ℕ, nat_lt, Bool, true, false, List, length, Option, None, Some, Result, Ok, Err, if◌then◌else◌}
use Rattle.spec_ephemeris.specs.Ephemeris.{Ephemeris}
use Rattle.spec_ephemeris.specs.Ticks.{in_ticks}
use Rattle.spec_trees.specs.declared.tree.Leaf.{Leaf}
use Rattle.spec_trees.specs.declared.window.Window.{Window}
use Rattle.spec_trees.specs.Tree.{Covers}
use Rattle.spec_trees.specs.Windows.{windows}
use Rattle.spec_searches.specs.Search.{Search}
use Rattle.spec_kinds.specs.declared.ask.Ask.{Ask}
use Rattle.spec_kinds.specs.declared.fault.EventFault.{EventFault}
use Rattle.spec_kinds.specs.Faults.{fault_of}
use Rattle.spec_generated.specs.Generated.{generated_ephemeris, generated_text}
use Rattle.spec_requests.specs.declared.request.FindAsk.{FindAsk}
use Rattle.spec_output.specs.declared.limits.TheConstants.{MAX_LEAVES}
use Rattle.spec_output.specs.Report.{generation, report}
use Rattle.spec_output.specs.Summary.{summary}
use Rattle.spec_outcomes.specs.declared.query.Query.{Query}
use Rattle.spec_outcomes.specs.declared.query.Span.{Span}
use Rattle.spec_outcomes.specs.declared.refusal.Refusal.{Refusal}
use Rattle.spec_outcomes.specs.declared.refusal.Refusal.TheVariants.{Event, Memory, Outside, TooManyLeaves}
use Rattle.spec_outcomes.specs.Queries.{AreFound, conjunctions, is_within, leaves_in, query_of, search, span_of, whole_span}

abbrev pub Outcome : Type 0
Outcome = Result (List ℕ) Refusal

-- ---- causes
-- why there is no search of a span, where the span is one of the ephemeris or is not, and the event has a fault or none
abbrev pub cause_by : Bool → Option EventFault → Span → Span → Option Refusal
cause_by false fault span whole = Some (Outside span whole)
cause_by true (Some fault) span whole = Some (Event fault)
cause_by true None span whole = None

-- why the events of a query cannot be searched for over a span of an ephemeris
abbrev pub cause_of : Query → Ephemeris → Span → Option Refusal
cause_of q e span = cause_by (is_within span e) (fault_of e q.ask) span (whole_span e)

-- the event has a fault, and the refusal is for it
abbrev pub HasFault : Ephemeris → Ask → Refusal → Type 0
HasFault e ask refusal = (fault : EventFault) × (fault_of e ask ≡ Some fault) × (refusal ≡ Event fault)

-- what is found, unless there is a cause against it
abbrev pub unless : {X : Type 0} → Option Refusal → Result X Refusal → Result X Refusal
unless (Some refusal) found = Err refusal
unless None found = found

-- ---- leaves
-- the leaves of a search in a span, unless they are more than so many
unfoldable pub searched : ℕ → Search → Span → Result (List Leaf) Refusal
searched most s span = if nat_lt most (length (leaves_in s span)) then Err (TooManyLeaves most) else Ok (leaves_in s span)

-- the same for a query over a span of an ephemeris, unless there is a cause against it
abbrev pub found : ℕ → Query → Ephemeris → Span → Result (List Leaf) Refusal
found most q e span = unless (cause_of q e span) (searched most (search q e) span)

-- memory ran out, or there is this cause against it
abbrev pub Stops : ℕ → Query → Ephemeris → Span → Refusal → Type 0
Stops most q e span refusal = (refusal ≡ Memory) ⊎ (found most q e span ≡ Err refusal)

-- a text of the leaves
abbrev pub text_by : (List Leaf → List ℕ) → Result (List Leaf) Refusal → Outcome
text_by text (Ok ls) = Ok (text ls)
text_by text (Err refusal) = Err refusal

-- the leaves that a search of at most so many finds in a span of an ephemeris: they follow one another over the span, and their
-- windows are those of the query's events
pub record IsFound (most : ℕ) (q : Query) (e : Ephemeris) (span : Span) (ls : List Leaf) : Type 0 where
  pub within : is_within span e ≡ true
  pub outcome : found most q e span ≡ Ok ls
  pub same : ls ≡ leaves_in (search q e) span
  pub follow : Covers span.from ls span.upto
  pub windows : AreFound (search q e) span ls

-- ---- `find`
-- the report of the windows of leaves
abbrev pub report_by : FindAsk → Span → List Leaf → List ℕ
report_by find span ls = report find span.from span.upto (windows ls)

-- its outcome over an ephemeris that counts the ticks of the search
abbrev pub counted_report : FindAsk → Ephemeris → Outcome
counted_report find e = let span = span_of find e in text_by (report_by find span) (found MAX_LEAVES (query_of find) e span)

-- the same over the ephemeris of its files, which counts seconds
abbrev pub report_of : FindAsk → Ephemeris → Outcome
report_of find e = counted_report find (in_ticks find.tick e)

-- ---- `check`
abbrev pub summary_of : Ephemeris → Outcome
summary_of e = Ok (summary e)

-- ---- `gen`
-- its search is one of the whole ephemeris of the generated text
abbrev pub generated_search : ℕ → ℕ → Search
generated_search blocks seed = search conjunctions (generated_ephemeris blocks seed)

abbrev pub generated_span : ℕ → ℕ → Span
generated_span blocks seed = whole_span (generated_ephemeris blocks seed)

abbrev pub generation_by : ℕ → ℕ → List Window → List ℕ
generation_by blocks seed = generation blocks seed (length (generated_text blocks seed))

abbrev pub generation_of : ℕ → ℕ → Outcome
generation_of blocks seed =
    text_by (λ ls. generation_by blocks seed (windows ls)) (searched MAX_LEAVES (generated_search blocks seed) (generated_span blocks seed))
