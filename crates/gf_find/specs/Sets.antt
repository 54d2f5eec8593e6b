-- What `set` reports: the times of the span that is asked for at which a function is sure to have a relation to its references, and
-- those at which it may. Times are ticks. Known bytes were the first list, and are the second.
use Rattle.std.specs.Prelude.{◌≡◌, ℕ, ℤ, List, Option, Ok}
use Rattle.std.specs.Io.KnownBytes.{Appends}
use Rattle.spec_text.specs.declared.decimals.Decimal.{Decimal}
use Rattle.spec_intervals.specs.declared.signs.Sign.{Sign}
use Rattle.spec_ephemeris.specs.Ephemeris.{Ephemeris}
use Rattle.spec_ephemeris.specs.Ticks.{in_ticks}
use Rattle.spec_sets.specs.Pairs.{AreSets, possible_spans, sure_spans}
use Rattle.spec_requests.specs.declared.request.FindAsk.{FindAsk}
use Rattle.spec_requests.specs.declared.request.Relation.{Relation}
use Rattle.spec_output.specs.Report.{set_report}
use Rattle.spec_outcomes.specs.declared.query.Span.{Span}
use Rattle.spec_outcomes.specs.Queries.{query_of, search, span_of}
use Rattle.spec_outcomes.specs.Sets.{IsRelated, counted_set, other_query, related_signs, set_by}

module _ (find : FindAsk) (ref2 : Option Decimal) (relation : Relation) (e : Ephemeris) where
  -- at a time the function has the relation to its references
  abbrev pub IsMet : ℤ → Type 0
  IsMet = IsRelated relation (search (query_of find) e) (search (other_query (query_of find) ref2) e)

  -- what the leaves of the search about each reference tell of it
  abbrev pub signs_asked : ℤ → Sign
  signs_asked = related_signs relation (search (query_of find) e) (search (other_query (query_of find) ref2) e) (span_of find e)

  abbrev pub sure_times : List (ℤ × ℤ)
  sure_times = sure_spans signs_asked (span_of find e).from (span_of find e).upto

  abbrev pub possible_times : List (ℤ × ℤ)
  possible_times = possible_spans signs_asked (span_of find e).from (span_of find e).upto

-- the report of sets over an ephemeris that counts the ticks of the search
pub record IsCountedSet (find : FindAsk) (ref2 : Option Decimal) (relation : Relation) (text : List ℕ) (e : Ephemeris) : Type 0 where
  pub outcome : counted_set find ref2 relation e ≡ Ok text
  pub printed : text ≡ set_by find relation (span_of find e) (signs_asked find ref2 relation e)
  pub sets : AreSets (IsMet find ref2 relation e) (span_of find e).from (span_of find e).upto (sure_times find ref2 relation e) (possible_times find ref2 relation e)

-- the same over the ephemeris of its files, which counts seconds
abbrev pub IsSetReport : FindAsk → Option Decimal → Relation → List ℕ → Ephemeris → Type 0
IsSetReport find ref2 relation text e = IsCountedSet find ref2 relation text (in_ticks find.tick e)

-- known bytes grew by the report of two sets of times of a span, and by nothing else: P holds at each sure time, and each time of
-- the span at which P holds is possible
pub record ReportsTimes (P : ℤ → Type 0) (span : Span) (surely perhaps : List (ℤ × ℤ)) (report : List (ℤ × ℤ) → List (ℤ × ℤ) → List ℕ) (old new : Option (List ℕ)) : Type 0 where
  pub printed : Appends old new (report surely perhaps)
  pub sets : AreSets P span.from span.upto surely perhaps

-- it was written
abbrev pub ReportsSet : FindAsk → Option Decimal → Relation → Option (List ℕ) → Option (List ℕ) → Ephemeris → Type 0
ReportsSet find ref2 relation old new e =
    let counted = in_ticks find.tick e in
    let span = span_of find counted in
    ReportsTimes (IsMet find ref2 relation counted) span (sure_times find ref2 relation counted) (possible_times find ref2 relation counted)
    (set_report find relation span.from span.upto) old new
