-- The report of the sets of times that were found.
use Rattle.std.proofs.Common.{◌≡◌, ◌⊎◌, ◌∙◌, ℕ, ℤ, false, List, Option, Result, Ok, Err, sym, ap, subst, inl, inr}
use Rattle.std.specs.Prelude.{IfErr, IfOk, Vec}
use Rattle.std.specs.declared.alloc.Global.{Global}
use Rattle.spec_text.specs.declared.decimals.Decimal.{Decimal}
use Rattle.spec_ephemeris.specs.Ephemeris.{Ephemeris}
use Rattle.spec_ephemeris.specs.Ticks.{in_ticks}
use Rattle.spec_sets.specs.Pairs.{AreSets}
use Rattle.spec_requests.specs.declared.request.FindAsk.{FindAsk}
use Rattle.spec_requests.specs.declared.request.Relation.{Relation}
use Rattle.spec_requests.specs.Limits.{IsSetWithinLimits}
use Rattle.spec_output.specs.Report.{set_report}
use Rattle.gf_edges.specs.Edges.{Files}
use Rattle.spec_outcomes.specs.declared.query.Query.{Query}
use Rattle.spec_outcomes.specs.declared.query.Span.{Span}
use Rattle.spec_outcomes.specs.declared.refusal.Refusal.{Refusal}
use Rattle.spec_outcomes.specs.declared.refusal.Refusal.TheVariants.{Memory, Outside}
use Rattle.spec_outcomes.specs.Queries.{is_within, query_of, span_of, whole_span}
use Rattle.spec_outcomes.specs.Sets.{AreSetsFound, IsSetQuery, SetStops, counted_set, other_query, set_by, set_of, set_outcome, signs_found}
use Rattle.spec_outcomes.proofs.SetOutcomes.{outside_stops_sets}
use Rattle.spec_outcomes.proofs.SetSigns.{asked_for_sets}
use Rattle.gf_find.specs.Outcomes.{FilesHaveOutcome, HaveEphemeris, HoldEphemeris}
use Rattle.gf_find.specs.Sets.{IsCountedSet, IsMet, IsSetReport, possible_times, signs_asked}

-- ---- over an ephemeris
module _ (find : FindAsk) (ref2 : Option Decimal) (relation : Relation) where
  -- what words ask for keeps to the limits of a query
  pub set_query_is : (p : Query) → p ≡ query_of find → IsSetWithinLimits find ref2 relation → IsSetQuery p
  set_query_is p same limits = subst IsSetQuery (sym same) (asked_for_sets find ref2 relation limits)

  module _ (e : Ephemeris) where
    abbrev asked : Span
    asked = span_of find e

    abbrev q : Query
    q = query_of find

    -- a span that is not one of the ephemeris stops the search
    pub outside_set : (r : Refusal) → is_within asked e ≡ false → r ≡ Outside asked (whole_span e) → counted_set find ref2 relation e ≡ Err r
    outside_set r out is =
        ap (set_outcome find relation asked) (outside_stops_sets relation q (other_query q ref2) e asked out) ∙ ap (λ (s : Refusal). Err s) (sym is)

    sets_here : (surely perhaps : List (ℤ × ℤ)) (text : List ℕ) → AreSetsFound relation q (other_query q ref2) e asked surely perhaps
        → text ≡ set_report find relation asked.from asked.upto surely perhaps → IsCountedSet find ref2 relation text e
    sets_here surely perhaps text found printed =
        let shown : text ≡ set_by find relation asked (signs_asked find ref2 relation e) = printed ∙ (λ i. set_report find relation asked.from asked.upto (found.sure i) (found.maybe i)) in
        record {
          outcome = ap (set_outcome find relation asked) found.outcome ∙ ap (λ (t : List ℕ). Ok t) (sym shown);
          printed = shown;
          sets = subst (λ (sure : List (ℤ × ℤ)). AreSets (IsMet find ref2 relation e) asked.from asked.upto sure (possible_times find ref2 relation e)) found.sure
              (subst (λ (maybe : List (ℤ × ℤ)). AreSets (IsMet find ref2 relation e) asked.from asked.upto surely maybe) found.maybe found.meets);
        }

    module _ (p : Query) (span : Span) (same : p ≡ q) (whole : span ≡ asked) where
      pub sets_are : (surely perhaps : List (ℤ × ℤ)) (text : List ℕ) → AreSetsFound relation p (other_query p ref2) e span surely perhaps
          → text ≡ set_report find relation span.from span.upto surely perhaps → IsCountedSet find ref2 relation text e
      sets_are surely perhaps text found printed =
          sets_here surely perhaps text
          (subst (λ (s : Span). AreSetsFound relation q (other_query q ref2) e s surely perhaps) whole
          (subst (λ (r : Query). AreSetsFound relation r (other_query r ref2) e span surely perhaps) same found))
          (printed ∙ ap (λ (s : Span). set_report find relation s.from s.upto surely perhaps) whole)

      pub set_stops : (r : Refusal) → SetStops relation p (other_query p ref2) e span r → (r ≡ Memory) ⊎ (counted_set find ref2 relation e ≡ Err r)
      set_stops r (inl none) = inl none
      set_stops r (inr stops) =
          inr (ap (set_outcome find relation asked)
          (subst (λ (s : Span). signs_found relation q (other_query q ref2) e s ≡ Err r) whole
          (subst (λ (k : Query). signs_found relation k (other_query k ref2) e span ≡ Err r) same stops)))

-- ---- over files
module _ (files : Option Files) (find : FindAsk) (ref2 : Option Decimal) (relation : Relation) (e counted : Ephemeris) (held : HaveEphemeris files find.files e) (same : counted ≡ in_ticks find.tick e) where
  pub set_held : (r : Result (Vec ℕ Global) Refusal) → IfOk r (λ text. IsCountedSet find ref2 relation text.items counted)
      → IfOk r (λ text. HoldEphemeris files find.files (IsSetReport find ref2 relation text.items))
  set_held (Ok text) is = record { ephemeris = e; held = held; is = subst (λ (f : Ephemeris). IsCountedSet find ref2 relation text.items f) same is }
  set_held (Err r) is = tt

  pub set_refused : (count now : ℕ) (r : Result (Vec ℕ Global) Refusal) → IfErr r (λ s. (s ≡ Memory) ⊎ (counted_set find ref2 relation counted ≡ Err s))
      → IfErr r (λ s. (s ≡ Memory) ⊎ FilesHaveOutcome files find.files count now (set_of find ref2 relation) (Err s))
  set_refused count now (Ok text) stops = tt
  set_refused count now (Err r) (inl none) = inl none
  set_refused count now (Err r) (inr stops) =
      inr (inl (record { ephemeris = e; held = held; is = subst (λ (f : Ephemeris). counted_set find ref2 relation f ≡ Err r) same stops }))
