-- What `set` comes to over an ephemeris: the times at which a function has a relation to one reference or two, as a set of
-- times that are sure to have it and a set of times that may. The leaves of a search about each reference give each time a
-- sign, and the signs of both references that of the relation.
use Rattle.std.specs.Prelude.{◌≡◌, ◌⊎◌, ℕ, ℤ, ◌≤ℤ◌, true, List, All, Option, None, Some, Result, Ok, Err}
use Rattle.spec_text.specs.declared.decimals.Decimal.{Decimal}
use Rattle.spec_intervals.specs.declared.signs.Sign.{Sign}
use Rattle.spec_expressions.specs.Term.{exact_of}
use Rattle.spec_ephemeris.specs.Ephemeris.{Ephemeris}
use Rattle.spec_ephemeris.specs.Ticks.{in_ticks}
use Rattle.spec_bodies.specs.Views.{exact_state, state_enclosure}
use Rattle.spec_trees.specs.declared.tree.Leaf.{Leaf}
use Rattle.spec_events.specs.declared.dir.Dir.TheVariants.{Any}
use Rattle.spec_events.specs.Functions.{IsNotNegative}
use Rattle.spec_sets.specs.Pairs.{AreSets, possible_spans, sure_spans}
use Rattle.spec_sets.specs.Points.{point_of}
use Rattle.spec_sets.specs.Signs.{both, either, opposite, sign_of_leaves}
use Rattle.spec_searches.specs.Search.{Search}
use Rattle.spec_requests.specs.declared.request.FindAsk.{FindAsk}
use Rattle.spec_requests.specs.declared.request.Relation.{Relation}
use Rattle.spec_requests.specs.declared.request.Relation.TheVariants.{AtLeast, Less, Outside, Within}
use Rattle.spec_requests.specs.Options.{has_sets}
use Rattle.spec_output.specs.declared.limits.TheConstants.{MAX_LEAVES}
use Rattle.spec_output.specs.Report.{set_report}
use Rattle.spec_outcomes.specs.declared.query.Query.{Query}
use Rattle.spec_outcomes.specs.declared.query.Span.{Span}
use Rattle.spec_outcomes.specs.declared.refusal.Refusal.{Refusal}
use Rattle.spec_outcomes.specs.declared.refusal.Refusal.TheVariants.{Memory}
use Rattle.spec_outcomes.specs.Outcomes.{Outcome, cause_of, searched, unless}
use Rattle.spec_outcomes.specs.Queries.{IsQuery, leaves_in, query_of, search, span_of}

-- ---- queries
-- a query whose search tells at each time whether its function is at least 0: it wants all turns, of a kind that has sets
pub record IsSetQuery (q : Query) : Type 0 where
  pub query : IsQuery q
  pub all : q.ask.dir ≡ Any
  pub kind : has_sets q.ask.kind ≡ true

-- the same about another reference
abbrev pub with_reference : Query → Decimal → Query
with_reference q ref2 = record q { ask = record q.ask { value1 = ref2 } }

-- the query about the second reference; where there is none, the first stands for it
abbrev pub other_query : Query → Option Decimal → Query
other_query q None = q
other_query q (Some ref2) = with_reference q ref2

-- ---- what times have to meet
-- the function of a search is at least 0 at a time
abbrev pub IsAtLeast : Search → ℤ → Type 0
IsAtLeast s = IsNotNegative (exact_of (exact_state s.view) s.event.function)

-- P is to be at least the first reference, and Q to be at least the second: at least the first; below it; at least the first and
-- below the second; below the first or at least the second
abbrev pub relates : Relation → (ℤ → Type 0) → (ℤ → Type 0) → ℤ → Type 0
relates AtLeast P Q t = P t
relates Less P Q t = P t → ⊥
relates Within P Q t = P t × (Q t → ⊥)
relates Outside P Q t = (P t → ⊥) ⊎ Q t

-- at a time the function has a relation to the references of two searches
abbrev pub IsRelated : Relation → Search → Search → ℤ → Type 0
IsRelated relation s r = relates relation (IsAtLeast s) (IsAtLeast r)

-- ---- what the leaves of searches tell of it
-- whether the function of a search is at least 0 at each time of a span, by leaves of the search
abbrev pub signs_by : Search → Span → List Leaf → ℤ → Sign
signs_by s span ls = sign_of_leaves (point_of (state_enclosure s.view) s.event.function) span.from ls

-- the same by the leaves of its tree
abbrev pub signs_in : Search → Span → ℤ → Sign
signs_in s span = signs_by s span (leaves_in s span)

-- whether a relation is met, where it is so told of being at least the first reference, and at least the second
abbrev pub relation_sign : Relation → Sign → Sign → Sign
relation_sign AtLeast x y = x
relation_sign Less x y = opposite x
relation_sign Within x y = both x (opposite y)
relation_sign Outside x y = either (opposite x) y

-- the same at each time, by the trees of two searches
abbrev pub related_signs : Relation → Search → Search → Span → ℤ → Sign
related_signs relation s r span t = relation_sign relation (signs_in s span t) (signs_in r span t)

-- ---- outcomes
-- two results together, or the first refusal
abbrev pub together : {X Y : Type 0} → (X → X → Y) → Result X Refusal → Result X Refusal → Result Y Refusal
together make (Ok x) (Ok y) = Ok (make x y)
together make (Ok x) (Err refusal) = Err refusal
together make (Err refusal) other = Err refusal

-- the relation's signs by the leaves of two searches, unless one has more leaves than may be
abbrev pub searched_signs : Relation → Search → Search → Span → Result (ℤ → Sign) Refusal
searched_signs relation s r span =
    together (λ ls ms t. relation_sign relation (signs_by s span ls t) (signs_by r span ms t))
    (searched MAX_LEAVES s span) (searched MAX_LEAVES r span)

-- the same for two queries over a span of an ephemeris, unless there is a cause against one of them
abbrev pub signs_found : Relation → Query → Query → Ephemeris → Span → Result (ℤ → Sign) Refusal
signs_found relation q r e span =
    unless (cause_of q e span) (unless (cause_of r e span) (searched_signs relation (search q e) (search r e) span))

-- memory ran out, or there is this cause against the sets
abbrev pub SetStops : Relation → Query → Query → Ephemeris → Span → Refusal → Type 0
SetStops relation q r e span refusal = (refusal ≡ Memory) ⊎ (signs_found relation q r e span ≡ Err refusal)

-- the report of the times to which signs are given
abbrev pub set_by : FindAsk → Relation → Span → (ℤ → Sign) → List ℕ
set_by find relation span sign =
    set_report find relation span.from span.upto (sure_spans sign span.from span.upto) (possible_spans sign span.from span.upto)

abbrev pub set_outcome : FindAsk → Relation → Span → Result (ℤ → Sign) Refusal → Outcome
set_outcome find relation span (Ok sign) = Ok (set_by find relation span sign)
set_outcome find relation span (Err refusal) = Err refusal

-- the outcome of `set` over an ephemeris that counts the ticks of the search
abbrev pub counted_set : FindAsk → Option Decimal → Relation → Ephemeris → Outcome
counted_set find ref2 relation e =
    let span = span_of find e in
    let q = query_of find in
    set_outcome find relation span (signs_found relation q (other_query q ref2) e span)

-- the same over the ephemeris of its files, which counts seconds
abbrev pub set_of : FindAsk → Option Decimal → Relation → Ephemeris → Outcome
set_of find ref2 relation e = counted_set find ref2 relation (in_ticks find.tick e)

-- ---- what is found
-- times from a first to a last, which lie in a span
pub record IsPart (span : Span) (times : ℤ × ℤ) : Type 0 where
  pub from : span.from ≤ℤ times.0
  pub ordered : times.0 ≤ℤ times.1
  pub upto : times.1 ≤ℤ span.upto

-- the sets of a relation to the references of two queries: each sure time of the span has the relation, and each time that has
-- it is possible
pub record AreSetsFound (relation : Relation) (q r : Query) (e : Ephemeris) (span : Span) (surely perhaps : List (ℤ × ℤ)) : Type 0 where
  pub outcome : signs_found relation q r e span ≡ Ok (related_signs relation (search q e) (search r e) span)
  pub sure : surely ≡ sure_spans (related_signs relation (search q e) (search r e) span) span.from span.upto
  pub maybe : perhaps ≡ possible_spans (related_signs relation (search q e) (search r e) span) span.from span.upto
  pub meets : AreSets (IsRelated relation (search q e) (search r e)) span.from span.upto surely perhaps
  pub sure_within : All (IsPart span) surely
  pub maybe_within : All (IsPart span) perhaps
