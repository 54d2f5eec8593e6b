-- The signs of a relation tell at which times of a span a function has it, and their sets are those of the relation.
use Rattle.std.proofs.Common.{◌≡◌, ◌<◌, true, List, [], map, Option, None, Some, ℤ, ◌≤ℤ◌, refl, subst, arith}
use Rattle.std.proofs.lemmas.Int.{ints}
use Rattle.spec_text.specs.declared.decimals.Decimal.{Decimal}
use Rattle.spec_intervals.specs.Fraction.{Fraction}
use Rattle.spec_intervals.specs.declared.signs.Sign.{Sign}
use Rattle.spec_expressions.specs.Term.{exact_of}
use Rattle.spec_ephemeris.specs.Ephemeris.{Ephemeris, IsEphemeris, end_of}
use Rattle.spec_bodies.specs.Views.{Fits, exact_state, state_enclosure}
use Rattle.spec_bodies.proofs.Held.{fractions_of_states, states_held}
use Rattle.spec_trees.specs.Tree.{Covers}
use Rattle.spec_events.specs.declared.dir.Dir.{Dir}
use Rattle.spec_events.specs.declared.dir.Dir.TheVariants as D
use Rattle.spec_events.specs.Functions.{EventsOf}
use Rattle.spec_events.specs.Marks.{AreRightlyMarked}
use Rattle.spec_events.specs.Soundness.{Tells}
use Rattle.spec_sets.specs.Pairs.{AreOf, AreSets, possible_spans, sure_spans}
use Rattle.spec_sets.specs.Points.{point_of}
use Rattle.spec_sets.specs.Signs.{AreTold, is_possible, is_sure, opposite}
use Rattle.spec_sets.specs.Spans.{earliest, latest}
use Rattle.spec_sets.proofs.Marks.{marks_tell}
use Rattle.spec_sets.proofs.Points.{point_tells}
use Rattle.spec_sets.proofs.Runs.{spans_of_have}
use Rattle.spec_sets.proofs.Sets.{sets_of_true_signs}
use Rattle.spec_sets.proofs.Telling.{both_tells, either_tells, leaves_tell, opposite_tells}
use Rattle.spec_searches.specs.Event.{Condition, guard_of}
use Rattle.spec_searches.specs.Found.{root}
use Rattle.spec_searches.specs.Search.{IsSearch, Search}
use Rattle.spec_searches.proofs.Borders.{time_fits}
use Rattle.spec_searches.proofs.Finding.{leaves_are_right}
use Rattle.spec_searches.proofs.Parts.{first_near, last_near}
use Rattle.spec_kinds.specs.declared.kind.Kind.{Kind}
use Rattle.spec_kinds.specs.declared.kind.Kind.TheVariants as K
use Rattle.spec_kinds.specs.Faults.{fault_of}
use Rattle.spec_kinds.specs.Kinds.{kind_conditions}
use Rattle.spec_requests.specs.declared.request.FindAsk.{FindAsk}
use Rattle.spec_requests.specs.declared.request.Relation.{Relation}
use Rattle.spec_requests.specs.declared.request.Relation.TheVariants.{AtLeast, Less, Outside, Within}
use Rattle.spec_requests.specs.Limits.{IsSetWithinLimits}
use Rattle.spec_requests.specs.Options.{has_sets}
use Rattle.spec_outcomes.specs.declared.query.Query.{Query}
use Rattle.spec_outcomes.specs.declared.query.Span.{Span}
use Rattle.spec_outcomes.specs.Outcomes.{cause_of}
use Rattle.spec_outcomes.specs.Queries.{IsLeft, is_within, leaves_in, query_of, search, whole_span}
use Rattle.spec_outcomes.specs.Sets.{IsAtLeast, IsRelated, IsSetQuery, other_query, related_signs, relates, relation_sign, signs_in}
use Rattle.spec_outcomes.proofs.Searching.{leaves_follow, none_by, root_valid, searchable}

-- ---- queries
-- a kind that has sets asks for no condition
no_condition : (kind : Kind) (v w : Decimal) → has_sets kind ≡ true → kind_conditions kind v w ≡ []
no_condition K.Coord v w has = refl
no_condition K.Radius v w has = refl
no_condition K.Apsis v w has = refl
no_condition K.Conj v w has = absurd (cc)
no_condition K.Oppo v w has = absurd (cc)
no_condition K.Station v w has = refl
no_condition K.Sep v w has = refl
no_condition K.SepExt v w has = refl
no_condition K.Any v w has = absurd (cc)
no_condition K.Full v w has = absurd (cc)
no_condition K.Annular v w has = absurd (cc)

-- the query about another reference is one for sets where the first is
pub other_is : (q : Query) (ref2 : Option Decimal) → IsSetQuery q → IsSetQuery (other_query q ref2)
other_is q None is = is
other_is q (Some ref2) is = record {
  query = record {
    ask = record { second = is.query.ask.second; target = is.query.ask.target; other = is.query.ask.other; axis = is.query.ask.axis };
    some_width = is.query.some_width;
    width = is.query.width;
    depth = is.query.depth;
  };
  all = is.all;
  kind = is.kind;
}

-- what words ask for is such a query
pub asked_for_sets : (find : FindAsk) (ref2 : Option Decimal) (relation : Relation) → IsSetWithinLimits find ref2 relation → IsSetQuery (query_of find)
asked_for_sets find ref2 relation is = record {
  query = record { ask = is.search.ask; some_width = is.search.some_width; width = is.search.width; depth = is.search.depth };
  all = is.all;
  kind = is.kind;
}

-- ---- one search
ends_within : (e : Ephemeris) (span : Span) → is_within span e ≡ true → (e.start ≤ℤ span.from) × (span.from ≤ℤ span.upto) × (span.upto ≤ℤ end_of e)
ends_within e span within = (grind (arith, ints, within), grind (arith, ints, within), grind (arith, ints, within))

module _ (q : Query) (e : Ephemeris) (span : Span) (checked : IsEphemeris e) (block : 0 < e.blocks) (is : IsSetQuery q)
    (within : is_within span e ≡ true) (sound : fault_of e q.ask ≡ None) where
  abbrev s : Search
  s = search q e

  abbrev exact : ℤ → Fraction
  exact = exact_of (exact_state s.view) s.event.function

  is_search : IsSearch s
  is_search = searchable q e checked block is.query sound

  -- the times that sets can have
  pub span_early : earliest ≤ℤ span.from
  span_early =
      let near = first_near s is_search.view in
      let from = (ends_within e span within).0 in
      omega (arith, ints, near, from)

  pub span_late : span.upto ≤ℤ latest
  span_late =
      let near = last_near s is_search.view in
      let upto = (ends_within e span within).2 in
      omega (arith, ints, near, upto)

  pub time_is_fit : (t : ℤ) → span.from ≤ℤ t → t ≤ℤ span.upto → Fits s.view t t
  time_is_fit t after before =
      let ends = ends_within e span within in
      let from = ends.0 in
      let upto = ends.2 in
      time_fits s.view is_search.view t (omega (arith, ints, from, after)) (omega (arith, ints, upto, before))

  pub follow : Covers span.from (leaves_in s span) span.upto
  follow = leaves_follow q e checked block is.query span within sound

  marked : AreRightlyMarked (EventsOf exact D.Any []) (IsLeft s span) (leaves_in s span)
  marked =
      subst (λ (dir : Dir). AreRightlyMarked (EventsOf exact dir []) (IsLeft s span) (leaves_in s span)) is.all
      (subst (λ (cs : List Condition). AreRightlyMarked (EventsOf exact q.ask.dir (map (guard_of (exact_state s.view)) cs)) (IsLeft s span) (leaves_in s span))
      (no_condition q.ask.kind q.ask.value1 q.ask.value2 is.kind) (leaves_are_right s is_search (root span.from span.upto) (root_valid q e span within)))

  told : AreTold (IsAtLeast s) (leaves_in s span)
  told = marks_tell exact (IsLeft s span) span.from span.upto (leaves_in s span) follow marked

  pub signs_tell : (t : ℤ) → span.from ≤ℤ t → t ≤ℤ span.upto → Tells (signs_in s span t) (IsAtLeast s t)
  signs_tell =
      leaves_tell (IsAtLeast s) (point_of (state_enclosure s.view) s.event.function) span.from span.upto (leaves_in s span) follow told
      (λ t after before. point_tells (exact_state s.view) (state_enclosure s.view) s.event.function is_search.formulas.function.leaves t
      (fractions_of_states s.view t t (time_is_fit t after before)) (states_held s.view t t (time_is_fit t after before)))

-- ---- two searches
pub relation_tells : (relation : Relation) (P Q : ℤ → Type 0) (t : ℤ) (x y : Sign) → Tells x (P t) → Tells y (Q t) → Tells (relation_sign relation x y) (relates relation P Q t)
relation_tells AtLeast P Q t x y first second = first
relation_tells Less P Q t x y first second = opposite_tells x (P t) first
relation_tells Within P Q t x y first second = both_tells x (opposite y) (P t) (Q t → ⊥) first (opposite_tells y (Q t) second)
relation_tells Outside P Q t x y first second = either_tells (opposite x) y (P t → ⊥) (Q t) (opposite_tells x (P t) first) second

module _ (relation : Relation) (q r : Query) (e : Ephemeris) (span : Span) (checked : IsEphemeris e) (block : 0 < e.blocks) (is : IsSetQuery q) (other : IsSetQuery r)
    (within : is_within span e ≡ true) (sound : fault_of e q.ask ≡ None) (other_sound : fault_of e r.ask ≡ None) where
  abbrev sign : ℤ → Sign
  sign = related_signs relation (search q e) (search r e) span

  pub related_tell : (t : ℤ) → span.from ≤ℤ t → t ≤ℤ span.upto → Tells (sign t) (IsRelated relation (search q e) (search r e) t)
  related_tell t after before =
      relation_tells relation (IsAtLeast (search q e)) (IsAtLeast (search r e)) t (signs_in (search q e) span t) (signs_in (search r e) span t)
      (signs_tell q e span checked block is within sound t after before) (signs_tell r e span checked block other within other_sound t after before)

  -- sets of these signs are those of the relation
  pub sets_meet : (surely perhaps : List (ℤ × ℤ)) → AreOf sign span.from span.upto surely perhaps
      → AreSets (IsRelated relation (search q e) (search r e)) span.from span.upto surely perhaps
  sets_meet surely perhaps are =
      sets_of_true_signs (IsRelated relation (search q e) (search r e)) sign span.from span.upto surely perhaps are related_tell

  pub spans_are : AreOf sign span.from span.upto (sure_spans sign span.from span.upto) (possible_spans sign span.from span.upto)
  spans_are =
      let ordered = (ends_within e span within).1 in
      let early = span_early q e span checked block is within sound in
      let late = span_late q e span checked block is within sound in
      record {
        sure = spans_of_have (λ t. is_sure (sign t)) span.from span.upto ordered early late;
        maybe = spans_of_have (λ t. is_possible (sign t)) span.from span.upto ordered early late;
      }

-- the sets of a relation, where there is no cause against either query
pub sets_by_signs_meet : (relation : Relation) (q r : Query) (e : Ephemeris) (span : Span) → IsEphemeris e → 0 < e.blocks → IsSetQuery q → IsSetQuery r
    → cause_of q e span ≡ None → cause_of r e span ≡ None
    → AreSets (IsRelated relation (search q e) (search r e)) span.from span.upto
    (sure_spans (related_signs relation (search q e) (search r e) span) span.from span.upto)
    (possible_spans (related_signs relation (search q e) (search r e) span) span.from span.upto)
sets_by_signs_meet relation q r e span checked block is other none other_none =
    let first = none_by (is_within span e) (fault_of e q.ask) span (whole_span e) none in
    let second = none_by (is_within span e) (fault_of e r.ask) span (whole_span e) other_none in
    sets_meet relation q r e span checked block is other first.0 first.1 second.1 _ _ (spans_are relation q r e span checked block is other first.0 first.1 second.1)
