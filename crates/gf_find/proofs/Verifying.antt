-- What a run that checks a certificate comes to.
use Rattle.std.proofs.Common.{◌≡◌, ◌⊎◌, ◌≤◌, ◌∙◌, ℕ, false, true, List, length, Option, None, Some, Result, Ok, Err, refl, sym, ap, subst, arith, inl, inr}
use Rattle.std.specs.Prelude.{IfErr, IfOk, Vec}
use Rattle.std.specs.declared.alloc.Global.{Global}
use Rattle.spec_text.specs.declared.limits.TheConstants.{MAX_TEXT_BYTES}
use Rattle.spec_ephemeris.specs.Ephemeris.{Ephemeris}
use Rattle.spec_ephemeris.specs.Ticks.{in_ticks}
use Rattle.spec_searches.specs.Search.{Search}
use Rattle.spec_kinds.specs.Faults.{fault_of}
use Rattle.spec_text.specs.declared.decimals.Fault.{Fault}
use Rattle.spec_faults.specs.declared.numbers.TheConstants.{FILE_TOO_LARGE}
use Rattle.spec_files.specs.Files.{IsFile, IsLongFile}
use Rattle.spec_files.specs.Texts.{fault_at}
use Rattle.spec_requests.specs.declared.request.FindAsk.{FindAsk}
use Rattle.gf_edges.specs.Edges.{Files, Lacks, Rose}
use Rattle.spec_outcomes.specs.declared.query.Query.{Query}
use Rattle.spec_outcomes.specs.declared.query.Span.{Span}
use Rattle.spec_outcomes.specs.declared.refusal.Refusal.{Refusal}
use Rattle.spec_outcomes.specs.declared.refusal.Refusal.TheVariants.{Event, File, Memory, NotRead, Outside}
use Rattle.spec_outcomes.specs.Outcomes.{HasFault, Outcome, cause_by, cause_of}
use Rattle.spec_outcomes.specs.Certificates.{IsVerification, verification_of, verified_by}
use Rattle.spec_outcomes.specs.Queries.{is_within, query_of, search, span_of, whole_span}
use Rattle.gf_find.specs.CertificateFiles.{CauseOr, CertificateHasOutcome, CertificateStops, HoldsText, IsAbsent, VerifyHasOutcome}
use Rattle.gf_find.specs.Outcomes.{FilesHave, HaveEphemeris, HoldEphemeris}
use Rattle.gf_find.specs.Verifies.{IsVerified}

-- ---- a text that was read
module _ (files : Option Files) (name text shown : List ℕ) (there : IsFile files name text) (small : length text ≤ MAX_TEXT_BYTES) (same : shown ≡ text) where
  holds_text : (P : List ℕ → Type 0) → P shown → HoldsText files name P
  holds_text P is = record { text = text; there = there; small = small; is = subst P same is }

  -- what is printed of it is printed of the file, and its refusal is that of the file
  pub text_printed : (P : List ℕ → List ℕ → Type 0) (r : Result (Vec ℕ Global) Refusal) → IfOk r (λ bytes. P shown bytes.items)
      → IfOk r (λ bytes. HoldsText files name (λ t. P t bytes.items))
  text_printed P (Ok bytes) is = holds_text (λ t. P t bytes.items) is
  text_printed P (Err r) is = tt

  pub text_refused : (count now : ℕ) (f : List ℕ → Outcome) (r : Result (Vec ℕ Global) Refusal) → IfErr r (λ s. (s ≡ Memory) ⊎ (f shown ≡ Err s))
      → IfErr r (λ s. (s ≡ Memory) ⊎ CertificateHasOutcome files name count now f (Err s))
  text_refused count now f (Ok bytes) stops = tt
  text_refused count now f (Err s) (inl none) = inl none
  text_refused count now f (Err s) (inr stops) = inr (inl (holds_text (λ t. f t ≡ Err s) stops))

-- ---- a file that was not read
module _ (files : Option Files) (shown name : List ℕ) (named : shown ≡ name) (count now : ℕ) (r : Refusal) where
  stopped : CertificateStops files shown count now r → (r ≡ Memory) ⊎ CertificateStops files name count now r
  stopped stops = inr (subst (λ (n : List ℕ). CertificateStops files n count now r) named stops)

  pub too_long_stops : (fault : Fault) → fault ≡ fault_at 0 FILE_TOO_LARGE → IsLongFile files shown → (r ≡ Memory) ⊎ (r ≡ File shown fault)
      → (r ≡ Memory) ⊎ CertificateStops files name count now r
  too_long_stops fault of long (inl none) = inl none
  too_long_stops fault of long (inr same) = stopped (inl (record { long = long; same = same ∙ ap (File shown) of }))

  pub not_read_stops : Rose count now ⊎ Lacks files shown → (r ≡ Memory) ⊎ (r ≡ NotRead shown) → (r ≡ Memory) ⊎ CertificateStops files name count now r
  not_read_stops cause (inl none) = inl none
  not_read_stops cause (inr same) = stopped (inr (record { cause = cause; same = same }))

pub file_refused : (files : Option Files) (name : List ℕ) (count now : ℕ) (f : List ℕ → Outcome) (r : Refusal) → (r ≡ Memory) ⊎ CertificateStops files name count now r
    → (r ≡ Memory) ⊎ CertificateHasOutcome files name count now f (Err r)
file_refused files name count now f r (inl none) = inl none
file_refused files name count now f r (inr stops) = inr (inr (r, stops, refl))

-- ---- a count that was lower before
rose_before : (before count now : ℕ) → before ≤ count → Rose count now → Rose before now
rose_before before count now lower rose = omega (arith, lower, rose)

module _ (files : Option Files) (before count now : ℕ) (lower : before ≤ count) where
  absent_before : (name : List ℕ) (r : Refusal) → IsAbsent files name count now r → IsAbsent files name before now r
  absent_before name r absent = record { cause = by absent.cause; same = absent.same }
    where
      by : Rose count now ⊎ Lacks files name → Rose before now ⊎ Lacks files name
      by (inl rose) = inl (rose_before before count now lower rose)
      by (inr lacks) = inr lacks

  certificate_before : (name : List ℕ) (f : List ℕ → Outcome) (o : Outcome) → CertificateHasOutcome files name count now f o → CertificateHasOutcome files name before now f o
  certificate_before name f o (inl held) = inl held
  certificate_before name f o (inr (r, (inl long), same)) = inr (r, inl long, same)
  certificate_before name f o (inr (r, (inr absent), same)) = inr (r, inr (absent_before name r absent), same)

  module _ (find : FindAsk) (cert : List ℕ) (e : Ephemeris) (o : Outcome) where
    cause_before : (c : Option Refusal) → CauseOr c o (CertificateHasOutcome files cert count now (verification_of find (search (query_of find) e) (span_of find e)) o)
        → CauseOr c o (CertificateHasOutcome files cert before now (verification_of find (search (query_of find) e) (span_of find e)) o)
    cause_before (Some r) is = is
    cause_before None has = certificate_before cert (verification_of find (search (query_of find) e) (span_of find e)) o has

    verify_before : VerifyHasOutcome files find cert count now e o → VerifyHasOutcome files find cert before now e o
    verify_before has = cause_before (cause_of (query_of find) e (span_of find e)) has

-- ---- over an ephemeris
module _ (files : Option Files) (find : FindAsk) (cert : List ℕ) (count now : ℕ) (e : Ephemeris) where
  abbrev asked : Span
  asked = span_of find e

  abbrev Has : Outcome → Type 0
  Has o = CertificateHasOutcome files cert count now (verification_of find (search (query_of find) e) asked) o

  by_cause : (c : Option Refusal) (o : Outcome) → cause_of (query_of find) e asked ≡ c → CauseOr c o (Has o) → VerifyHasOutcome files find cert count now e o
  by_cause c o is has = subst (λ (d : Option Refusal). CauseOr d o (Has o)) (sym is) has

  -- a span that is not one of the ephemeris
  pub outside_refused : (r : Refusal) → is_within asked e ≡ false → r ≡ Outside asked (whole_span e) → VerifyHasOutcome files find cert count now e (Err r)
  outside_refused r out is =
      by_cause (Some (Outside asked (whole_span e))) (Err r) (λ i. cause_by (out i) (fault_of e find.ask) asked (whole_span e)) (ap (λ (s : Refusal). Err s) is)

  module _ (q : Query) (span : Span) (same : q ≡ query_of find) (whole : span ≡ asked) (within : is_within span e ≡ true) where
    inside : is_within asked e ≡ true
    inside = subst (λ (s : Span). is_within s e ≡ true) whole within

    -- a fault of the event
    pub fault_refused : (r : Refusal) → (r ≡ Memory) ⊎ HasFault e q.ask r → (r ≡ Memory) ⊎ VerifyHasOutcome files find cert count now e (Err r)
    fault_refused r (inl none) = inl none
    fault_refused r (inr has) =
        let fault = subst (λ (p : Query). HasFault e p.ask r) same has in
        inr (by_cause (Some (Event fault.0)) (Err r) (λ i. cause_by (inside i) (fault.1 i) asked (whole_span e)) (ap (λ (s : Refusal). Err s) fault.2))

    module _ (sound : fault_of e find.ask ≡ None) (searched : Search) (is : searched ≡ search q e) where
      no_cause : cause_of (query_of find) e asked ≡ None
      no_cause = λ i. cause_by (inside i) (sound i) asked (whole_span e)

      search_is : searched ≡ search (query_of find) e
      search_is = is ∙ ap (λ (p : Query). search p e) same

      pub certificate_refused : (r : Result (Vec ℕ Global) Refusal) → IfErr r (λ s. (s ≡ Memory) ⊎ CertificateHasOutcome files cert count now (verification_of find searched span) (Err s))
          → IfErr r (λ s. (s ≡ Memory) ⊎ VerifyHasOutcome files find cert count now e (Err s))
      certificate_refused (Ok bytes) has = tt
      certificate_refused (Err r) (inl none) = inl none
      certificate_refused (Err r) (inr has) =
          inr (by_cause None (Err r) no_cause (subst (λ (f : List ℕ → Outcome). CertificateHasOutcome files cert count now f (Err r)) (λ i. verification_of find (search_is i) (whole i)) has))

      pub certificate_verified : (r : Result (Vec ℕ Global) Refusal) → IfOk r (λ bytes. HoldsText files cert (λ text. IsVerification find searched span text bytes.items))
          → IfOk r (λ bytes. IsVerified files find cert e bytes.items)
      certificate_verified (Err r) held = tt
      certificate_verified (Ok bytes) held = record {
        sound = no_cause;
        holds = record {
          text = held.text;
          there = held.there;
          small = held.small;
          is = subst (λ (p : Search). IsVerification find p asked held.text bytes.items) search_is
              (subst (λ (t : Span). IsVerification find searched t held.text bytes.items) whole held.is);
        };
      }

-- ---- over files
module _ (files later : Option Files) (find : FindAsk) (cert : List ℕ) (before count now : ℕ) (e counted : Ephemeris) (held : HaveEphemeris files find.files e) (same : counted ≡ in_ticks find.tick e) (kept : later ≡ files) where
  pub files_verified : (r : Result (Vec ℕ Global) Refusal) → IfOk r (λ bytes. IsVerified later find cert counted bytes.items)
      → IfOk r (λ bytes. HoldEphemeris files find.files (λ f. IsVerified files find cert (in_ticks find.tick f) bytes.items))
  files_verified (Err r) is = tt
  files_verified (Ok bytes) is = record {
    ephemeris = e;
    held = held;
    is = subst (λ (fs : Option Files). IsVerified fs find cert (in_ticks find.tick e) bytes.items) kept
        (subst (λ (f : Ephemeris). IsVerified later find cert f bytes.items) same is);
  }

  pub files_refused : before ≤ count → (r : Result (Vec ℕ Global) Refusal) → IfErr r (λ s. (s ≡ Memory) ⊎ VerifyHasOutcome later find cert count now counted (Err s))
      → IfErr r (λ s. (s ≡ Memory) ⊎ FilesHave files find.files before now (λ f o. VerifyHasOutcome files find cert before now (in_ticks find.tick f) o) (Err s))
  files_refused lower (Ok bytes) has = tt
  files_refused lower (Err r) (inl none) = inl none
  files_refused lower (Err r) (inr has) =
      inr (inl (record {
        ephemeris = e;
        held = held;
        is = verify_before files before count now lower find cert (in_ticks find.tick e) (Err r)
            (subst (λ (fs : Option Files). VerifyHasOutcome fs find cert count now (in_ticks find.tick e) (Err r)) kept
            (subst (λ (f : Ephemeris). VerifyHasOutcome later find cert count now f (Err r)) same has));
      }))

-- what is printed of a certificate is the outcome
pub verified_outcome : (files : Option Files) (find : FindAsk) (cert : List ℕ) (count now : ℕ) (e : Ephemeris) (bytes : List ℕ) → IsVerified files find cert e bytes
    → VerifyHasOutcome files find cert count now e (Ok bytes)
verified_outcome files find cert count now e bytes is =
    let holds = is.holds in
    by_cause files find cert count now e None (Ok bytes) is.sound (inl (record {
      text = holds.text;
      there = holds.there;
      small = holds.small;
      is = ap (verified_by find (span_of find e)) holds.is.checked ∙ ap (λ (t : List ℕ). Ok t) (sym holds.is.printed);
    }))
