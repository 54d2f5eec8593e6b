-- Searches count ticks: their spans are those of the files in ticks, and their windows those of the ephemeris in ticks.
use Rattle.std.proofs.Common.{◌≡◌, ◌<◌, ℕ, Bool, true, false, if◌then◌else◌, ℤ, pos, ◌*ℤ◌, List, Option, None, Some, Result, Ok, Err, refl, sym, ap, ◌∙◌, subst}
use Rattle.std.specs.Prelude.{unwrap_or}
use Rattle.spec_text.specs.declared.decimals.Decimal.{Decimal}
use Rattle.spec_intervals.specs.declared.signs.Sign.{Sign}
use Rattle.spec_ephemeris.specs.Ephemeris.{Ephemeris, IsEphemeris}
use Rattle.spec_ephemeris.specs.Ticks.{IsInSeconds, IsTick, in_ticks}
use Rattle.spec_ephemeris.proofs.Ticks.{are_checked, end_in_ticks}
use Rattle.spec_trees.specs.declared.tree.Leaf.{Leaf}
use Rattle.spec_sets.specs.Pairs.{AreSets, possible_spans, sure_spans}
use Rattle.spec_searches.specs.Search.{Search}
use Rattle.spec_requests.specs.declared.request.FindAsk.{FindAsk}
use Rattle.spec_requests.specs.declared.request.Relation.{Relation}
use Rattle.spec_output.specs.declared.limits.TheConstants.{MAX_LEAVES}
use Rattle.spec_output.specs.Report.{set_report}
use Rattle.spec_certificates.specs.declared.limits.TheConstants.{MAX_CERT_LEAVES}
use Rattle.spec_outcomes.specs.declared.query.Query.{Query}
use Rattle.spec_outcomes.specs.declared.query.Span.{Span}
use Rattle.spec_outcomes.specs.declared.refusal.Refusal.{Refusal}
use Rattle.spec_outcomes.specs.declared.refusal.Refusal.TheVariants.{Outside, TooManyLeaves}
use Rattle.spec_outcomes.specs.Asked.{TellsOfEvents, TellsOfSets, asked_in_ticks, files_in_ticks, lies_in}
use Rattle.spec_outcomes.specs.Certificates.{certificate_by, certificate_of}
use Rattle.spec_outcomes.specs.Outcomes.{cause_of, found, report_by, report_of, searched, text_by, unless}
use Rattle.spec_outcomes.specs.Queries.{AreFound, IsQuery, is_within, leaves_in, query_of, search, span_of, whole_span}
use Rattle.spec_outcomes.specs.Sets.{IsRelated, IsSetQuery, other_query, related_signs, relation_sign, searched_signs, set_by, set_of, set_outcome, signs_by, signs_found, together}
use Rattle.spec_outcomes.proofs.Searching.{events_found, outside_stops}
use Rattle.spec_outcomes.proofs.SetOutcomes.{outside_stops_sets}
use Rattle.spec_outcomes.proofs.SetSigns.{other_is, sets_by_signs_meet}

-- ---- what a result that is there was made of
text_from : (written : List Leaf → List ℕ) (r : Result (List Leaf) Refusal) (text : List ℕ) → text_by written r ≡ Ok text
    → (ls : List Leaf) × (r ≡ Ok ls) × (text ≡ written ls)
text_from written (Ok ls) text is = (ls, refl, cc)
text_from written (Err refusal) text is = absurd (cc)

no_cause : {X : Type 0} (cause : Option Refusal) (r : Result X Refusal) (x : X) → unless cause r ≡ Ok x → (cause ≡ None) × (r ≡ Ok x)
no_cause (Some refusal) r x is = absurd (cc)
no_cause None r x is = (refl, is)

few : (many : Bool) (refusal : Refusal) (ls found : List Leaf) → (if many then Err refusal else Ok ls) ≡ Ok found → found ≡ ls
few true refusal ls found is = absurd (cc)
few false refusal ls found is = cc

leaves_are : (most : ℕ) (s : Search) (span : Span) (ls : List Leaf) → searched most s span ≡ Ok ls → ls ≡ leaves_in s span
unfolding searched
leaves_are most s span ls is = few _ (TooManyLeaves most) (leaves_in s span) ls is

pair_from : {X Y : Type 0} (make : X → X → Y) (one other : Result X Refusal) (made : Y) → together make one other ≡ Ok made
    → (x : X) × (y : X) × (one ≡ Ok x) × (other ≡ Ok y) × (made ≡ make x y)
pair_from make (Ok x) (Ok y) made is = (x, y, refl, refl, cc)
pair_from make (Ok x) (Err refusal) made is = absurd (cc)
pair_from make (Err refusal) other made is = absurd (cc)

signs_from : (find : FindAsk) (relation : Relation) (span : Span) (r : Result (ℤ → Sign) Refusal) (text : List ℕ) → set_outcome find relation span r ≡ Ok text
    → (sign : ℤ → Sign) × (r ≡ Ok sign) × (text ≡ set_by find relation span sign)
signs_from find relation span (Ok sign) text is = (sign, refl, cc)
signs_from find relation span (Err refusal) text is = absurd (cc)

-- ---- spans
module _ (find : FindAsk) (e : Ephemeris) where
  abbrev counted : Ephemeris
  counted = in_ticks find.tick e

  span_is : span_of find counted ≡ asked_in_ticks find e
  span_is = λ i. record { from = unwrap_or find.from (e.start *ℤ pos find.tick); upto = unwrap_or find.to (end_in_ticks find.tick e i) }

  whole_is : whole_span counted ≡ files_in_ticks find e
  whole_is = λ i. record { from = e.start *ℤ pos find.tick; upto = end_in_ticks find.tick e i }

  within_is : is_within (span_of find counted) counted ≡ lies_in (asked_in_ticks find e) (files_in_ticks find e)
  within_is = λ i. lies_in (span_is i) (whole_is i)

  module _ (out : lies_in (asked_in_ticks find e) (files_in_ticks find e) ≡ false) where
    refused : (most : ℕ) → found most (query_of find) counted (span_of find counted) ≡ Err (Outside (asked_in_ticks find e) (files_in_ticks find e))
    refused most = outside_stops most (query_of find) counted (span_of find counted) (within_is ∙ out) ∙ (λ i. Err (Outside (span_is i) (whole_is i)))

    pub report_is_refused : report_of find e ≡ Err (Outside (asked_in_ticks find e) (files_in_ticks find e))
    report_is_refused = ap (text_by (report_by find (span_of find counted))) (refused MAX_LEAVES)

    pub certificate_is_refused : certificate_of find e ≡ Err (Outside (asked_in_ticks find e) (files_in_ticks find e))
    certificate_is_refused = ap (text_by (certificate_by find (span_of find counted))) (refused MAX_CERT_LEAVES)

    pub set_is_refused : (ref2 : Option Decimal) (relation : Relation) → set_of find ref2 relation e ≡ Err (Outside (asked_in_ticks find e) (files_in_ticks find e))
    set_is_refused ref2 relation =
        ap (set_outcome find relation (span_of find counted))
        (outside_stops_sets relation (query_of find) (other_query (query_of find) ref2) counted (span_of find counted) (within_is ∙ out)
        ∙ (λ i. Err (Outside (span_is i) (whole_is i))))

  -- ---- what is found
  module _ (is : IsEphemeris e) (seconds : IsInSeconds e) (tick : IsTick find.tick) (block : 0 < e.blocks) where
    checked : IsEphemeris counted
    checked = are_checked find.tick e tick is seconds

    told : (most : ℕ) (written : Span → List Leaf → List ℕ) (text : List ℕ) → IsQuery (query_of find)
        → text_by (written (span_of find counted)) (found most (query_of find) counted (span_of find counted)) ≡ Ok text
        → TellsOfEvents find e written text
    told most written text query so =
        let span = span_of find counted in
        let q = query_of find in
        let made = text_from (written span) (found most q counted span) text so in
        let ls = made.0 in
        let free = no_cause (cause_of q counted span) (searched most (search q counted) span) ls made.1 in
        let same = leaves_are most (search q counted) span ls free.1 in
        let windows = events_found q counted checked block query span free.0 in
        record {
          leaves = ls;
          printed = subst (λ (s : Span). text ≡ written s ls) span_is made.2;
          windows =
              subst (λ (s : Span). AreFound (search q counted) s ls) span_is
              (subst (λ (vs : List Leaf). AreFound (search q counted) span vs) (sym same) windows);
        }

    pub report_tells : (text : List ℕ) → IsQuery (query_of find) → report_of find e ≡ Ok text → TellsOfEvents find e (report_by find) text
    report_tells text query so = told MAX_LEAVES (report_by find) text query so

    pub certificate_tells : (text : List ℕ) → IsQuery (query_of find) → certificate_of find e ≡ Ok text → TellsOfEvents find e (certificate_by find) text
    certificate_tells text query so = told MAX_CERT_LEAVES (certificate_by find) text query so

    module _ (ref2 : Option Decimal) (relation : Relation) (query : IsSetQuery (query_of find)) where
      abbrev q : Query
      q = query_of find

      abbrev r : Query
      r = other_query q ref2

      abbrev span : Span
      span = span_of find counted

      abbrev make : List Leaf → List Leaf → ℤ → Sign
      make ls ms t = relation_sign relation (signs_by (search q counted) span ls t) (signs_by (search r counted) span ms t)

      -- the signs are those of the relation
      signs_are : (sign : ℤ → Sign) → searched_signs relation (search q counted) (search r counted) span ≡ Ok sign
          → sign ≡ related_signs relation (search q counted) (search r counted) span
      signs_are sign so =
          let made = pair_from make (searched MAX_LEAVES (search q counted) span) (searched MAX_LEAVES (search r counted) span) sign so in
          let first = leaves_are MAX_LEAVES (search q counted) span made.0 made.2 in
          let second = leaves_are MAX_LEAVES (search r counted) span made.1 made.3 in
          made.4 ∙ (λ i. make (first i) (second i))

      sets_meet : (sign : ℤ → Sign) → signs_found relation q r counted span ≡ Ok sign
          → AreSets (IsRelated relation (search q counted) (search r counted)) span.from span.upto (sure_spans sign span.from span.upto) (possible_spans sign span.from span.upto)
      sets_meet sign so =
          let first = no_cause (cause_of q counted span) (unless (cause_of r counted span) (searched_signs relation (search q counted) (search r counted) span)) sign so in
          let second = no_cause (cause_of r counted span) (searched_signs relation (search q counted) (search r counted) span) sign first.1 in
          subst (λ (s : ℤ → Sign). AreSets (IsRelated relation (search q counted) (search r counted)) span.from span.upto (sure_spans s span.from span.upto) (possible_spans s span.from span.upto))
          (sym (signs_are sign second.1))
          (sets_by_signs_meet relation q r counted span checked block query (other_is q ref2 query) first.0 second.0)

      pub set_tells : (text : List ℕ) → set_of find ref2 relation e ≡ Ok text → TellsOfSets find ref2 relation e text
      set_tells text so =
          let made = signs_from find relation span (signs_found relation q r counted span) text so in
          let sign = made.0 in
          let surely = sure_spans sign span.from span.upto in
          let perhaps = possible_spans sign span.from span.upto in
          record {
            surely = surely;
            perhaps = perhaps;
            printed = subst (λ (s : Span). text ≡ set_report find relation s.from s.upto surely perhaps) span_is made.2;
            meets =
                subst (λ (s : Span). AreSets (IsRelated relation (search q counted) (search r counted)) s.from s.upto surely perhaps) span_is
                (sets_meet sign made.1);
          }
