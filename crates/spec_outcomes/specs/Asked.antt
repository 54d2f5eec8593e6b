-- What words ask for in ticks: their times are ticks, and those of the files seconds.
use Rattle.std.specs.Prelude.{◌≡◌, ◌&&◌, ℕ, Bool, int_le, int_lt, List, pos, ◌*ℤ◌, unwrap_or, Option, ℤ}
use Rattle.spec_text.specs.declared.decimals.Decimal.{Decimal}
use Rattle.spec_ephemeris.specs.Ephemeris.{Ephemeris, end_of}
use Rattle.spec_ephemeris.specs.Ticks.{in_ticks}
use Rattle.spec_trees.specs.declared.tree.Leaf.{Leaf}
use Rattle.spec_sets.specs.Pairs.{AreSets}
use Rattle.spec_searches.specs.Search.{Search}
use Rattle.spec_requests.specs.declared.request.FindAsk.{FindAsk}
use Rattle.spec_requests.specs.declared.request.Relation.{Relation}
use Rattle.spec_output.specs.Report.{set_report}
use Rattle.spec_outcomes.specs.declared.query.Query.{Query}
use Rattle.spec_outcomes.specs.declared.query.Span.{Span}
use Rattle.spec_outcomes.specs.Queries.{AreFound, query_of, search}
use Rattle.spec_outcomes.specs.Sets.{IsRelated, other_query}

-- the span of files
abbrev pub files_in_ticks : FindAsk → Ephemeris → Span
files_in_ticks find e = record { from = e.start *ℤ pos find.tick; upto = end_of e *ℤ pos find.tick }

-- the span that is asked for; where words name no time, it begins or ends with the files
abbrev pub asked_in_ticks : FindAsk → Ephemeris → Span
asked_in_ticks find e =
    record { from = unwrap_or find.from (files_in_ticks find e).from; upto = unwrap_or find.to (files_in_ticks find e).upto }

-- a span holds a time, and lies in another
abbrev pub lies_in : Span → Span → Bool
lies_in span whole = int_le whole.from span.from && (int_lt span.from span.upto && int_le span.upto whole.upto)

-- a search of files, whose positions are those of its ticks
abbrev pub search_in_ticks : FindAsk → Query → Ephemeris → Search
search_in_ticks find q e = search q (in_ticks find.tick e)

-- a text says of the span what is written of these leaves, and their windows are those of the events in it
pub record TellsOfEvents (find : FindAsk) (e : Ephemeris) (written : Span → List Leaf → List ℕ) (text : List ℕ) : Type 0 where
  pub leaves : List Leaf
  pub printed : text ≡ written (asked_in_ticks find e) leaves
  pub windows : AreFound (search_in_ticks find (query_of find) e) (asked_in_ticks find e) leaves

-- a text is the report of two sets of times of the span: each sure time has the relation, and each that has it is possible
pub record TellsOfSets (find : FindAsk) (ref2 : Option Decimal) (relation : Relation) (e : Ephemeris) (text : List ℕ) : Type 0 where
  pub surely : List (ℤ × ℤ)
  pub perhaps : List (ℤ × ℤ)
  pub printed : text ≡ set_report find relation (asked_in_ticks find e).from (asked_in_ticks find e).upto surely perhaps
  pub meets : AreSets
      (IsRelated relation (search_in_ticks find (query_of find) e) (search_in_ticks find (other_query (query_of find) ref2) e))
      (asked_in_ticks find e).from (asked_in_ticks find e).upto surely perhaps
