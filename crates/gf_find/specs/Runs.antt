-- What holds for a run of the program's call: each clause of `finder`, as a field of its name, for the words that were
-- given, the states of the shelf and the two outputs before and after, and the status.
use Rattle.std.specs.Prelude.{◌≡◌, ◌≢◌, ◌⊎◌, ℕ, List, Option, Err, Ok}
use Rattle.std.specs.Io.KnownBytes.{Keeps}
use Rattle.spec_text.specs.declared.decimals.Decimal.{Decimal}
use Rattle.spec_requests.specs.declared.request.FindAsk.{FindAsk}
use Rattle.spec_requests.specs.declared.request.Relation.{Relation}
use Rattle.spec_requests.specs.declared.request.ScalarAsk.{ScalarAsk}
use Rattle.spec_requests.specs.declared.request.Request.TheVariants.{Find, Cert, Verify, Check, Gen, Set, Scalar}
use Rattle.spec_requests.specs.Requests.{request_of}
use Rattle.spec_output.specs.Messages.{memory_text, write_text}
use Rattle.spec_output.specs.Writing.{Receives}
use Rattle.gf_edges.specs.Edges.{Files, Rose}
use Rattle.spec_outcomes.specs.declared.refusal.Refusal.{Refusal}
use Rattle.spec_outcomes.specs.declared.statuses.TheConstants.{NOT_WRITTEN, OUT_OF_MEMORY, REPORTED}
use Rattle.spec_outcomes.specs.Refusals.{line_of, status_of}
use Rattle.gf_find.specs.Outcomes.{HaveCause, HaveOutcome, HoldEphemeris, Ask, Words, texts_of}
use Rattle.gf_find.specs.Finds.{ReportsEvents}
use Rattle.gf_find.specs.Promises.{ReportsAllEvents}
use Rattle.gf_find.specs.Certifies.{ReportsCertificate}
use Rattle.gf_find.specs.Verifies.{ReportsVerified}
use Rattle.gf_find.specs.Checks.{ReportsSummary}
use Rattle.gf_find.specs.Generates.{ReportsGeneration}
use Rattle.gf_find.specs.Sets.{ReportsSet}
use Rattle.gf_find.specs.Scalars.{ReportsScalar}
use Rattle.gf_find.specs.Reported.{KnowsFiles, OpensNone, ReportsPart, ReportsWhole}

-- a run with words
pub record IsRunOfWords {S O E : Type 0} (files : S → Option Files) (read_faults : S → ℕ)
    (out_bytes : O → Option (List ℕ)) (out_faults : O → ℕ) (err_bytes : E → Option (List ℕ)) (err_faults : E → ℕ)
    (words : Words) (shelf shelf_now : S) (out out_now : O) (err err_now : E) (status : ℕ) : Type 0 where
  pub reported : status ≡ REPORTED
      → ReportsWhole words (files shelf) (read_faults shelf) (read_faults shelf_now) (out_bytes out) (out_bytes out_now)
  pub find : (find : FindAsk) → Ask words (Find find) → status ≡ REPORTED
      → HoldEphemeris (files shelf) find.files (ReportsEvents find (out_bytes out) (out_bytes out_now))
  pub events : (find : FindAsk) → Ask words (Find find) → status ≡ REPORTED
      → HoldEphemeris (files shelf) find.files (ReportsAllEvents find (out_bytes out) (out_bytes out_now))
  pub certified : (find : FindAsk) → Ask words (Cert find) → status ≡ REPORTED
      → HoldEphemeris (files shelf) find.files (ReportsCertificate find (out_bytes out) (out_bytes out_now))
  pub verified : (find : FindAsk) (cert : List ℕ) → Ask words (Verify find cert) → status ≡ REPORTED
      → HoldEphemeris (files shelf) find.files
      (ReportsVerified (files shelf) find cert (out_bytes out) (out_bytes out_now))
  pub check : (names : List (List ℕ)) → Ask words (Check names) → status ≡ REPORTED
      → HoldEphemeris (files shelf) names (ReportsSummary (out_bytes out) (out_bytes out_now))
  pub generated : (blocks seed workers : ℕ) → Ask words (Gen blocks seed workers) → status ≡ REPORTED
      → ReportsGeneration blocks seed (out_bytes out) (out_bytes out_now)
  pub set : (find : FindAsk) (ref2 : Option Decimal) (relation : Relation)
      → Ask words (Set find ref2 relation) → status ≡ REPORTED
      → HoldEphemeris (files shelf) find.files (ReportsSet find ref2 relation (out_bytes out) (out_bytes out_now))
  pub scalar : (ask : ScalarAsk) → Ask words (Scalar ask) → status ≡ REPORTED
      → ReportsScalar ask (out_bytes out) (out_bytes out_now)
  pub refused : status ≢ REPORTED → status ≢ NOT_WRITTEN → (refusal : Refusal)
      × HaveCause words (files shelf) (read_faults shelf) (read_faults shelf_now) refusal
      × (status ≡ status_of refusal) × Receives err_bytes err_faults err err_now (line_of refusal)
  pub write : status ≡ NOT_WRITTEN
      → ReportsPart words (files shelf) (read_faults shelf) (read_faults shelf_now) (out_bytes out) (out_bytes out_now)
  pub write_fault : status ≡ NOT_WRITTEN → Rose (out_faults out) (out_faults out_now)
  pub write_line : status ≡ NOT_WRITTEN → Receives err_bytes err_faults err err_now write_text
  pub complete : (text : List ℕ) → KnowsFiles words (files shelf)
      → HaveOutcome words (files shelf) (read_faults shelf) (read_faults shelf_now) (Ok text)
      → (status ≡ REPORTED) ⊎ ((status ≡ OUT_OF_MEMORY)
      ⊎ (Rose (read_faults shelf) (read_faults shelf_now) ⊎ Rose (out_faults out) (out_faults out_now)))
  pub exact : (refusal : Refusal) → KnowsFiles words (files shelf)
      → HaveOutcome words (files shelf) (read_faults shelf) (read_faults shelf_now) (Err refusal)
      → (status ≡ status_of refusal) ⊎ ((status ≡ OUT_OF_MEMORY) ⊎ Rose (read_faults shelf) (read_faults shelf_now))
  pub unopened : OpensNone (request_of (texts_of words)) → shelf_now ≡ shelf
  pub out_unchanged : status ≢ REPORTED → status ≢ NOT_WRITTEN → Keeps (out_bytes out) (out_bytes out_now)
  pub err_unchanged : status ≡ REPORTED → Keeps (err_bytes err) (err_bytes err_now)

-- a run for whose words there was no memory: it opens nothing and writes nothing but the line of out of memory
pub record IsRunWithoutWords {S O E : Type 0} (out_bytes : O → Option (List ℕ))
    (err_bytes : E → Option (List ℕ)) (err_faults : E → ℕ)
    (shelf shelf_now : S) (out out_now : O) (err err_now : E) (status : ℕ) : Type 0 where
  pub out_of_memory : status ≡ OUT_OF_MEMORY
  pub unopened : shelf_now ≡ shelf
  pub out_unchanged : Keeps (out_bytes out) (out_bytes out_now)
  pub line : Receives err_bytes err_faults err err_now memory_text
