-- What is wanted of the search that words ask of their files, and what is made of it.
use Rattle.std.proofs.Common.{◌≡◌, ◌⊎◌, ℕ, false, true, List, Option, Result, Ok, Err, sym, ap, ◌∙◌, subst, inl, inr}
use Rattle.std.specs.Prelude.{All, IfErr}
use Rattle.spec_ephemeris.specs.Ephemeris.{Ephemeris, end_of}
use Rattle.spec_ephemeris.specs.Ticks.{in_ticks}
use Rattle.spec_trees.specs.declared.tree.Leaf.{Leaf}
use Rattle.spec_trees.specs.Tree.{Covers}
use Rattle.spec_trees.specs.Windows.{windows}
use Rattle.spec_requests.specs.declared.request.FindAsk.{FindAsk}
use Rattle.spec_requests.specs.Limits.{IsWithinLimits}
use Rattle.spec_times.specs.Ticks.{IsTimeIn}
use Rattle.spec_output.specs.declared.limits.TheConstants.{MAX_LEAVES}
use Rattle.spec_output.specs.Report.{HasTimes, report}
use Rattle.gf_edges.specs.Edges.{Files}
use Rattle.spec_outcomes.specs.declared.query.Query.{Query}
use Rattle.spec_outcomes.specs.declared.query.Span.{Span}
use Rattle.spec_outcomes.specs.declared.refusal.Refusal.{Refusal}
use Rattle.spec_outcomes.specs.declared.refusal.Refusal.TheVariants.{Memory, Outside}
use Rattle.spec_outcomes.specs.Outcomes.{IsFound, Stops, found, report_by, text_by}
use Rattle.spec_outcomes.specs.Certificates.{certificate_by}
use Rattle.spec_certificates.specs.declared.limits.TheConstants.{MAX_CERT_LEAVES}
use Rattle.spec_outcomes.specs.Queries.{IsQuery, is_within, leaves_in, query_of, search, span_of, whole_span}
use Rattle.gf_search.specs.declared.wanted.Wanted.{Wanted}
use Rattle.gf_search.specs.declared.wanted.Wanted.TheVariants.{Leaves, Signs, Windows}
use Rattle.gf_search.specs.Wanted.{HasWindows, IsWanted}
use Rattle.spec_outcomes.proofs.Searching.{outside_stops}
use Rattle.gf_find.specs.Outcomes.{FilesHaveOutcome, HaveEphemeris, HoldEphemeris}
use Rattle.gf_find.specs.Searches.{AreSearched, AreSearchedIn, SearchStops}
use Rattle.gf_find.specs.Finds.{IsCountedReport, IsReport}
use Rattle.gf_find.specs.Certifies.{IsCertificate, IsCountedCertificate}
use Rattle.gf_find.proofs.Accepted.{in_seconds, is_checked}
use Rattle.spec_outcomes.proofs.SpanTimes.{from_is, upto_is, windows_are}
use Rattle.gf_find.proofs.Times.{end_counted, start_counted}

-- out of memory, or another cause
pub memory_also : {X : Type 0} (P : Refusal → Type 0) (r : Result X Refusal) → IfErr r (λ refusal. refusal ≡ Memory) → IfErr r (λ refusal. (refusal ≡ Memory) ⊎ P refusal)
memory_also P (Ok x) is = tt
memory_also P (Err refusal) is = inl is

-- ---- over an ephemeris
-- what words ask for keeps to the limits of a query
pub asked_is : (find : FindAsk) (q : Query) → q ≡ query_of find → IsWithinLimits find → IsQuery q
asked_is find q same limits =
    subst IsQuery (sym same) (record { ask = limits.ask; some_width = limits.some_width; width = limits.width; depth = limits.depth })

module _ (most : ℕ) (find : FindAsk) (e : Ephemeris) where
  -- a span that is not one of the ephemeris stops the search
  pub outside_is : (r : Refusal) → is_within (span_of find e) e ≡ false → r ≡ Outside (span_of find e) (whole_span e) → found most (query_of find) e (span_of find e) ≡ Err r
  outside_is r out is = outside_stops most (query_of find) e (span_of find e) out ∙ ap (λ (s : Refusal). Err s) (sym is)

  module _ (q : Query) (span : Span) where
    pub found_asked : (wanted : Wanted) (ls : List Leaf) → q ≡ query_of find → span ≡ span_of find e → IsWanted wanted most q e span ls → AreSearched wanted most find e span ls
    found_asked wanted ls same whole is = record { span_is = whole; found = subst (λ (p : Query). IsWanted wanted most p e span ls) same is }

    pub stops_asked : (r : Refusal) → q ≡ query_of find → span ≡ span_of find e → Stops most q e span r → Stops most (query_of find) e (span_of find e) r
    stops_asked r same whole stops = subst (λ (s : Span). Stops most (query_of find) e s r) whole (subst (λ (p : Query). Stops most p e span r) same stops)

-- ---- over files
module _ (files : Option Files) (find : FindAsk) (most : ℕ) (e counted : Ephemeris) where
  pub held_leaves : (wanted : Wanted) (span : Span) (ls : List Leaf) → HaveEphemeris files find.files e → counted ≡ in_ticks find.tick e → AreSearched wanted most find counted span ls
      → HoldEphemeris files find.files (AreSearchedIn wanted most find span ls)
  held_leaves wanted span ls held same is = record { ephemeris = e; held = held; is = subst (λ (f : Ephemeris). AreSearched wanted most find f span ls) same is }

  pub search_stops : (count now : ℕ) (r : Refusal) → HaveEphemeris files find.files e → counted ≡ in_ticks find.tick e → Stops most (query_of find) counted (span_of find counted) r
      → SearchStops most find files count now r
  search_stops count now r held same (inl none) = inl none
  search_stops count now r held same (inr stops) =
      inr (inr (record { ephemeris = e; held = held; is = subst (λ (f : Ephemeris). found most (query_of find) f (span_of find f) ≡ Err r) same stops }))

-- ---- what is made of them
-- why there are no leaves is why there is no text of them
pub text_stops : (most : ℕ) (find : FindAsk) (files : Option Files) (count now : ℕ) (text : Span → List Leaf → List ℕ) (r : Refusal) → SearchStops most find files count now r
    → (r ≡ Memory) ⊎ FilesHaveOutcome files find.files count now
    (λ e. text_by (text (span_of find (in_ticks find.tick e))) (found most (query_of find) (in_ticks find.tick e) (span_of find (in_ticks find.tick e)))) (Err r)
text_stops most find files count now text r (inl none) = inl none
text_stops most find files count now text r (inr (inl stops)) = inr (inr (r, stops, λ i. Err r))
text_stops most find files count now text r (inr (inr held)) =
    inr (inl (record { ephemeris = held.ephemeris; held = held.held; is = ap (text_by (text (span_of find (in_ticks find.tick held.ephemeris)))) held.is }))

-- whatever is wanted, what is found follows one another over a span of the ephemeris, and has the windows of the search
wanted_within : (wanted : Wanted) (most : ℕ) (q : Query) (e : Ephemeris) (span : Span) (ls : List Leaf) → IsWanted wanted most q e span ls → is_within span e ≡ true
wanted_within Leaves most q e span ls is = is.within
wanted_within Windows most q e span ls has = has.within
wanted_within Signs most q e span ls has = has.within

wanted_follow : (wanted : Wanted) (most : ℕ) (q : Query) (e : Ephemeris) (span : Span) (ls : List Leaf) → IsWanted wanted most q e span ls → Covers span.from ls span.upto
wanted_follow Leaves most q e span ls is = is.follow
wanted_follow Windows most q e span ls has = has.follow
wanted_follow Signs most q e span ls has = has.follow

module _ (files : Option Files) (find : FindAsk) (wanted : Wanted) (most : ℕ) (span : Span) (ls : List Leaf) (held : HoldEphemeris files find.files (AreSearchedIn wanted most find span ls)) where
  abbrev counted : Ephemeris
  counted = in_ticks find.tick held.ephemeris

  start : IsTimeIn find.tick counted.start
  start = start_counted find.tick held.ephemeris (in_seconds files find.files held.ephemeris held.held)

  end : IsTimeIn find.tick (end_of counted)
  end = end_counted find.tick held.ephemeris (is_checked files find.files held.ephemeris held.held) (in_seconds files find.files held.ephemeris held.held)

  within : is_within span counted ≡ true
  within = wanted_within wanted most (query_of find) counted span ls held.is.found

  pub from_time : IsTimeIn find.tick span.from
  from_time = from_is find.tick counted start end span within

  pub upto_time : IsTimeIn find.tick span.upto
  upto_time = upto_is find.tick counted start end span within

  pub follow_one_another : Covers span.from ls span.upto
  follow_one_another = wanted_follow wanted most (query_of find) counted span ls held.is.found

-- the windows that are found
module _ (files : Option Files) (find : FindAsk) (most : ℕ) (span : Span) (ls : List Leaf) (held : HoldEphemeris files find.files (AreSearchedIn Windows most find span ls)) where
  pub have_times : All (HasTimes find.tick) (windows ls)
  have_times =
      let s = search (query_of find) (in_ticks find.tick held.ephemeris) in
      subst (All (HasTimes find.tick)) (sym held.is.found.windows)
      (windows_are find.tick span (from_time files find Windows most span ls held) (upto_time files find Windows most span ls held) s (leaves_in s span) held.is.found.events)

-- what is known of their text over the span that is asked for is known over the files
module _ (wanted : Wanted) (most : ℕ) (find : FindAsk) (text_over : Span → List Leaf → List ℕ) (Is : List ℕ → Ephemeris → Type 0)
    (here : (e : Ephemeris) (ls : List Leaf) (text : List ℕ) → IsWanted wanted most (query_of find) e (span_of find e) ls → text ≡ text_over (span_of find e) ls → Is text e) where
  text_is : (e : Ephemeris) (span : Span) (ls : List Leaf) (text : List ℕ) → AreSearched wanted most find e span ls → text ≡ text_over span ls → Is text e
  text_is e span ls text is printed =
      here e ls text (subst (λ (s : Span). IsWanted wanted most (query_of find) e s ls) is.span_is is.found) (printed ∙ ap (λ (s : Span). text_over s ls) is.span_is)

  text_held : (files : Option Files) (span : Span) (ls shown : List Leaf) (text : List ℕ) → HoldEphemeris files find.files (AreSearchedIn wanted most find span ls)
      → shown ≡ ls → text ≡ text_over span shown → HoldEphemeris files find.files (λ e. Is text (in_ticks find.tick e))
  text_held files span ls shown text held same printed = record {
    ephemeris = held.ephemeris;
    held = held.held;
    is = text_is (in_ticks find.tick held.ephemeris) span ls text held.is (printed ∙ ap (text_over span) same);
  }

module _ (find : FindAsk) where
  -- the report of their windows
  report_here : (e : Ephemeris) (ls : List Leaf) (text : List ℕ) → HasWindows MAX_LEAVES (query_of find) e (span_of find e) ls → text ≡ report_by find (span_of find e) ls → IsCountedReport find text e
  report_here e ls text has printed =
      let span = span_of find e in
      let shown = printed ∙ ap (report find span.from span.upto) has.windows in
      record {
        outcome = ap (text_by (report_by find span)) has.outcome ∙ ap (λ (t : List ℕ). Ok t) (sym shown);
        printed = shown;
        windows = has.events;
      }

  pub report_held : (files : Option Files) (span : Span) (ls shown : List Leaf) (text : List ℕ) → HoldEphemeris files find.files (AreSearchedIn Windows MAX_LEAVES find span ls)
      → shown ≡ ls → text ≡ report_by find span shown → HoldEphemeris files find.files (IsReport find text)
  report_held = text_held Windows MAX_LEAVES find (report_by find) (IsCountedReport find) report_here

  -- the certificate of the leaves
  certificate_here : (e : Ephemeris) (ls : List Leaf) (text : List ℕ) → IsFound MAX_CERT_LEAVES (query_of find) e (span_of find e) ls → text ≡ certificate_by find (span_of find e) ls
      → IsCountedCertificate find text e
  certificate_here e ls text is printed = record {
    outcome = ap (text_by (certificate_by find (span_of find e))) is.outcome ∙ ap (λ (t : List ℕ). Ok t) (sym printed);
    printed = printed ∙ ap (certificate_by find (span_of find e)) is.same;
  }

  pub certificate_held : (files : Option Files) (span : Span) (ls shown : List Leaf) (text : List ℕ)
      → HoldEphemeris files find.files (AreSearchedIn Leaves MAX_CERT_LEAVES find span ls) → shown ≡ ls → text ≡ certificate_by find span shown
      → HoldEphemeris files find.files (IsCertificate find text)
  certificate_held = text_held Leaves MAX_CERT_LEAVES find (certificate_by find) (IsCountedCertificate find) certificate_here
