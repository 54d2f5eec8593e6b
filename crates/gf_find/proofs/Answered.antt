-- From the text that a run has, or from the cause why it has none, to what it writes and returns.
use Rattle.std.proofs.Common.{◌≡◌, ◌⊎◌, ℕ, List, Option, Ok, Err, sym, ap, ◌∙◌, subst, inl, inr}
use Rattle.std.specs.Io.KnownBytes.{Appends}
use Rattle.spec_ephemeris.specs.Ticks.{in_ticks}
use Rattle.spec_text.specs.declared.decimals.Decimal.{Decimal}
use Rattle.spec_requests.specs.declared.request.FindAsk.{FindAsk}
use Rattle.spec_requests.specs.declared.request.Relation.{Relation}
use Rattle.spec_requests.specs.declared.request.ScalarAsk.{ScalarAsk}
use Rattle.spec_requests.specs.declared.request.Request.{Request}
use Rattle.spec_requests.specs.declared.request.Request.TheVariants.{Find, Cert, Verify, Check, Gen, Set, Scalar}
use Rattle.spec_requests.specs.Requests.{request_of}
use Rattle.gf_edges.specs.Edges.{Files, Rose}
use Rattle.spec_outcomes.specs.declared.refusal.Refusal.{Refusal}
use Rattle.spec_outcomes.specs.declared.refusal.Refusal.TheVariants as R
use Rattle.spec_outcomes.specs.declared.statuses.TheConstants.{OUT_OF_MEMORY}
use Rattle.spec_outcomes.specs.Outcomes.{Outcome}
use Rattle.spec_outcomes.specs.Queries.{query_of, search, span_of, windows_in}
use Rattle.spec_outcomes.specs.Refusals.{status_of}
use Rattle.gf_find.specs.Outcomes.{Ask, RequestHasOutcome, HaveCause, HaveOutcome, HoldEphemeris, Words, texts_of}
use Rattle.gf_find.specs.Finds.{ReportsEvents}
use Rattle.gf_find.specs.Promises.{ReportsAllEvents}
use Rattle.gf_find.specs.Certifies.{ReportsCertificate}
use Rattle.gf_find.specs.Verifies.{ReportsVerified}
use Rattle.gf_find.specs.Checks.{ReportsSummary}
use Rattle.gf_find.specs.Generates.{ReportsGeneration}
use Rattle.gf_find.specs.Sets.{ReportsSet}
use Rattle.gf_find.specs.Scalars.{ReportsScalar}
use Rattle.gf_find.specs.Reported.{KnowsFiles}
use Rattle.gf_find.specs.Texts.{IsAnswer, IsAnswered}
use Rattle.gf_find.proofs.Causes.{one_outcome_by}
use Rattle.gf_find.proofs.Verifying.{verified_outcome}

-- ---- a text
module _ (words : Words) (files : Option Files) (text : List ℕ) (answered : IsAnswered words files text) where
  asked_for : (request : Request) → Ask words request → IsAnswer request files text
  asked_for request asked =
      let one : Ok answered.request ≡ Ok request = sym answered.asked ∙ asked in
      let same : answered.request ≡ request = cc in
      subst (λ (r : Request). IsAnswer r files text) same answered.answer

  module _ (old new : Option (List ℕ)) (gained : Appends old new text) where
    abbrev P : List ℕ → Type 0
    P t = Appends old new t

    pub finds : (find : FindAsk) → Ask words (Find find) → HoldEphemeris files find.files (ReportsEvents find old new)
    finds find asked =
        let held = asked_for (Find find) asked in
        record { ephemeris = held.ephemeris; held = held.held; is = record { printed = subst P held.is.printed gained; windows = held.is.windows } }

    pub promises : (find : FindAsk) → Ask words (Find find) → HoldEphemeris files find.files (ReportsAllEvents find old new)
    promises find asked =
        let held = finds find asked in
        let windows = held.is.windows in
        record {
          ephemeris = held.ephemeris;
          held = held.held;
          is = record {
            windows = windows_in (search (query_of find) (in_ticks find.tick held.ephemeris)) (span_of find (in_ticks find.tick held.ephemeris));
            hold = record { within = windows.within; in_order = windows.in_order; every_event = windows.every_event; certain = windows.certain };
            printed = held.is.printed;
          };
        }

    pub certifies : (find : FindAsk) → Ask words (Cert find) → HoldEphemeris files find.files (ReportsCertificate find old new)
    certifies find asked =
        let held = asked_for (Cert find) asked in
        record { ephemeris = held.ephemeris; held = held.held; is = subst P held.is.printed gained }

    pub verifies : (find : FindAsk) (cert : List ℕ) → Ask words (Verify find cert) → HoldEphemeris files find.files (ReportsVerified files find cert old new)
    verifies find cert asked =
        let held = asked_for (Verify find cert) asked in
        let holds = held.is.holds in
        record {
          ephemeris = held.ephemeris;
          held = held.held;
          is = record {
            text = holds.text;
            there = holds.there;
            small = holds.small;
            is = record { leaves = holds.is.leaves; checked = holds.is.checked; reports = record { printed = subst P holds.is.printed gained; windows = holds.is.windows } };
          };
        }

    pub checks : (names : List (List ℕ)) → Ask words (Check names) → HoldEphemeris files names (ReportsSummary old new)
    checks names asked =
        let held = asked_for (Check names) asked in
        record { ephemeris = held.ephemeris; held = held.held; is = subst P held.is gained }

    pub generates : (blocks seed workers : ℕ) → Ask words (Gen blocks seed workers) → ReportsGeneration blocks seed old new
    generates blocks seed workers asked =
        let is = asked_for (Gen blocks seed workers) asked in
        record { printed = subst P is.printed gained; windows = is.windows }

    pub relates : (find : FindAsk) (ref2 : Option Decimal) (relation : Relation) → Ask words (Set find ref2 relation)
        → HoldEphemeris files find.files (ReportsSet find ref2 relation old new)
    relates find ref2 relation asked =
        let held = asked_for (Set find ref2 relation) asked in
        record { ephemeris = held.ephemeris; held = held.held; is = record { printed = subst P held.is.printed gained; sets = held.is.sets } }

    pub passes : (ask : ScalarAsk) → Ask words (Scalar ask) → ReportsScalar ask old new
    passes ask asked =
        let is = asked_for (Scalar ask) asked in
        record { printed = subst P is.printed gained; windows = is.windows }

  pub outcome_is : (count now : ℕ) → HaveOutcome words files count now (Ok text)
  outcome_is count now =
      subst (λ asked. RequestHasOutcome asked files count now (Ok text)) (sym answered.asked) (by answered.request answered.answer)
    where
      by : (request : Request) → IsAnswer request files text → RequestHasOutcome (Ok request) files count now (Ok text)
      by (Find find) held = inl (record { ephemeris = held.ephemeris; held = held.held; is = held.is.outcome })
      by (Cert find) held = inl (record { ephemeris = held.ephemeris; held = held.held; is = held.is.outcome })
      by (Verify find cert) held = inl (record { ephemeris = held.ephemeris; held = held.held; is = verified_outcome files find cert count now (in_ticks find.tick held.ephemeris) text held.is })
      by (Check names) held = inl (record { ephemeris = held.ephemeris; held = held.held; is = ap (λ (t : List ℕ). Ok t) (sym held.is) })
      by (Gen blocks seed workers) is = sym is.outcome
      by (Set find ref2 relation) held = inl (record { ephemeris = held.ephemeris; held = held.held; is = held.is.outcome })
      by (Scalar ask) is = sym is.outcome

abbrev refused : Refusal → Outcome
refused r = Err r

-- ---- statuses that are wanted
module _ (words : Words) (files : Option Files) (count now : ℕ) (known : KnowsFiles words files) where
  pub one_outcome : (outcome other : Outcome) → HaveOutcome words files count now outcome → HaveOutcome words files count now other → Rose count now ⊎ (outcome ≡ other)
  one_outcome outcome other one two = one_outcome_by files count now (request_of (texts_of words)) outcome other known one two

  -- a run that has a text is not refused, unless the shelf failed
  pub text_not_refused : (text : List ℕ) (r : Refusal) → HaveOutcome words files count now (Ok text) → HaveOutcome words files count now (Err r) → Rose count now
  text_not_refused text r is other = by (one_outcome (Ok text) (Err r) is other)
    where
      by : Rose count now ⊎ (Ok text ≡ Err r) → Rose count now
      by (inl rose) = rose
      by (inr same) = absurd (cc)

  module _ (status : ℕ) (cause refusal : Refusal) (from : (cause ≡ refusal) ⊎ (cause ≡ R.Memory)) (is : status ≡ status_of cause) (has : HaveCause words files count now refusal) where
    memory : cause ≡ R.Memory → status ≡ OUT_OF_MEMORY
    memory same = is ∙ ap status_of same

    pub refused_exactly : (wanted : Refusal) → HaveOutcome words files count now (Err wanted) → (status ≡ status_of wanted) ⊎ ((status ≡ OUT_OF_MEMORY) ⊎ Rose count now)
    refused_exactly wanted other = by from has
      where
        by_once : (cause ≡ refusal) → Rose count now ⊎ (refused refusal ≡ refused wanted) → (status ≡ status_of wanted) ⊎ ((status ≡ OUT_OF_MEMORY) ⊎ Rose count now)
        by_once same (inl rose) = inr (inr rose)
        by_once same (inr one) = let one : refusal ≡ wanted = cc in inl (is ∙ ap status_of (same ∙ one))

        by : (cause ≡ refusal) ⊎ (cause ≡ R.Memory) → HaveCause words files count now refusal → (status ≡ status_of wanted) ⊎ ((status ≡ OUT_OF_MEMORY) ⊎ Rose count now)
        by (inr same) has = inr (inl (memory same))
        by (inl same) (inl none) = inr (inl (memory (same ∙ none)))
        by (inl same) (inr has_outcome) = by_once same (one_outcome (Err refusal) (Err wanted) has_outcome other)

    pub refused_only : (text : List ℕ) → HaveOutcome words files count now (Ok text) → (status ≡ OUT_OF_MEMORY) ⊎ Rose count now
    refused_only text other = by from has
      where
        by : (cause ≡ refusal) ⊎ (cause ≡ R.Memory) → HaveCause words files count now refusal → (status ≡ OUT_OF_MEMORY) ⊎ Rose count now
        by (inr same) has = inl (memory same)
        by (inl same) (inl none) = inl (memory (same ∙ none))
        by (inl same) (inr has_outcome) = inr (text_not_refused text refusal other has_outcome)

-- the cause that is written
pub cause_is : (words : Words) (files : Option Files) (count now : ℕ) (cause refusal : Refusal) → (cause ≡ refusal) ⊎ (cause ≡ R.Memory)
    → HaveCause words files count now refusal → HaveCause words files count now cause
cause_is words files count now cause refusal (inl same) has = subst (HaveCause words files count now) (sym same) has
cause_is words files count now cause refusal (inr same) has = inl same
