-- The sets of a relation, from those of the searches about its references.
use Rattle.std.proofs.Common.{◌≡◌, ◌<◌, true, None, List, ℤ, ◌≤ℤ◌, arith}
use Rattle.std.proofs.lemmas.Int.{ints}
use Rattle.spec_ephemeris.specs.Ephemeris.{Ephemeris, IsEphemeris}
use Rattle.spec_sets.specs.Pairs.{AreOf}
use Rattle.spec_sets.specs.Spans.{AreSpans}
use Rattle.spec_kinds.specs.Faults.{fault_of}
use Rattle.spec_requests.specs.declared.request.Relation.{Relation}
use Rattle.spec_outcomes.specs.declared.query.Query.{Query}
use Rattle.spec_outcomes.specs.declared.query.Span.{Span}
use Rattle.spec_outcomes.specs.Queries.{is_within, search}
use Rattle.spec_outcomes.specs.Sets.{AreSetsFound, IsSetQuery, related_signs}
use Rattle.spec_outcomes.proofs.SetOutcomes.{sets_are_found}
use Rattle.spec_outcomes.proofs.SetSigns.{span_early, span_late}
use Rattle.gf_search.specs.Reached.{AreReached, HasSets}

ordered : (e : Ephemeris) (span : Span) → is_within span e ≡ true → span.from ≤ℤ span.upto
ordered e span within = grind (arith, ints, within)

-- a span of a search can have sets
pub has_sets : (q : Query) (e : Ephemeris) (span : Span) → IsEphemeris e → 0 < e.blocks → IsSetQuery q → is_within span e ≡ true → fault_of e q.ask ≡ None → HasSets span
has_sets q e span checked block is within sound = record {
  ordered = ordered e span within;
  early = span_early q e span checked block is within sound;
  late = span_late q e span checked block is within sound;
}

pub related_are_found : (relation : Relation) (q r : Query) (e : Ephemeris) (span : Span) → IsEphemeris e → 0 < e.blocks → IsSetQuery q → IsSetQuery r
    → is_within span e ≡ true → fault_of e q.ask ≡ None → fault_of e r.ask ≡ None
    → (xs ys vs ws : List (ℤ × ℤ)) → AreReached (search q e) span xs ys → AreReached (search r e) span vs ws
    → (surely perhaps : List (ℤ × ℤ)) → AreSpans surely → AreSpans perhaps
    → AreOf (related_signs relation (search q e) (search r e) span) span.from span.upto surely perhaps
    → AreSetsFound relation q r e span surely perhaps
related_are_found relation q r e span checked block is other within sound other_sound xs ys vs ws first second surely perhaps sure_spans possible_spans are =
    sets_are_found relation q r e span within sound other_sound first.few second.few checked block is other
    (ordered e span within) surely perhaps sure_spans possible_spans are
