-- The outcome of a run: that of the ephemeris of its files, or the cause why they have none. Where the files are known, a run has
-- one outcome, and the causes stand in the order in which they are looked for: the words, the files, the span, the event, the
-- leaves of the search, the file of a certificate, its lines.
use Rattle.std.specs.Prelude.{◌≡◌, ◌⊎◌, ℕ, List, [], map, slice_get, Option, None, Some, Result, Ok, Err, String, string_bytes}
use Rattle.std.specs.declared.alloc.Global.{Global}
use Rattle.spec_text.specs.declared.decimals.Fault.{Fault}
use Rattle.spec_faults.specs.declared.numbers.TheConstants.{WORDS}
use Rattle.spec_ephemeris.specs.Ephemeris.{Ephemeris}
use Rattle.spec_ephemeris.specs.Ticks.{in_ticks}
use Rattle.spec_files.specs.Reading.{AreAccepted, AreRefused, IsNotRead}
use Rattle.spec_requests.specs.declared.request.Request.{Request}
use Rattle.spec_requests.specs.declared.request.Request.TheVariants.{Find, Cert, Verify, Check, Gen, Set, Scalar}
use Rattle.spec_requests.specs.declared.request.WordFault.{WordFault}
use Rattle.spec_requests.specs.Requests.{request_of}
use Rattle.gf_edges.specs.Edges.{Files}
use Rattle.spec_outcomes.specs.declared.refusal.Refusal.{Refusal}
use Rattle.spec_outcomes.specs.declared.refusal.Refusal.TheVariants as R
use Rattle.spec_outcomes.specs.Outcomes.{Outcome, generation_of, report_of, summary_of}
use Rattle.spec_outcomes.specs.Certificates.{certificate_of}
use Rattle.spec_outcomes.specs.Sets.{set_of}
use Rattle.spec_outcomes.specs.Scalars.{scalar_of}
use Rattle.spec_outcomes.specs.Refusals.{of_words}
use Rattle.gf_find.specs.CertificateFiles.{VerifyHasOutcome}

-- ---- of files
-- the files of these names are accepted, with this ephemeris
pub record HaveEphemeris (files : Option Files) (names : List (List ℕ)) (e : Ephemeris) : Type 0 where
  pub end : ℕ
  pub accepted : AreAccepted files names e end

-- they are accepted, with an ephemeris that P holds for
pub record HoldEphemeris (files : Option Files) (names : List (List ℕ)) (P : Ephemeris → Type 0) : Type 0 where
  pub ephemeris : Ephemeris
  pub held : HaveEphemeris files names ephemeris
  pub is : P ephemeris

-- words that name no file where one is needed are refused
pub record NameNoFile (names : List (List ℕ)) (refusal : Refusal) : Type 0 where
  pub none : names ≡ []
  pub same : refusal ≡ R.Words WORDS None

-- one of the files is refused
pub record RefuseFile (files : Option Files) (names : List (List ℕ)) (refusal : Refusal) : Type 0 where
  pub file : ℕ
  pub name : List ℕ
  pub here : slice_get names file ≡ Some name
  pub fault : Fault
  pub cause : AreRefused files names file fault
  pub same : refusal ≡ R.File name fault

-- one of the files could not be read; the shelf's count of faults was the first number, and is the second
pub record LackFile (files : Option Files) (names : List (List ℕ)) (count now : ℕ) (refusal : Refusal) : Type 0 where
  pub file : ℕ
  pub name : List ℕ
  pub here : slice_get names file ≡ Some name
  pub cause : IsNotRead files names count now file
  pub same : refusal ≡ R.NotRead name

-- why there is no ephemeris
abbrev pub FilesStop : Option Files → List (List ℕ) → ℕ → ℕ → Refusal → Type 0
FilesStop files names count now refusal =
    NameNoFile names refusal ⊎ (RefuseFile files names refusal ⊎ LackFile files names count now refusal)

-- files that are accepted have an outcome of their ephemeris
abbrev pub FilesHave : Option Files → List (List ℕ) → ℕ → ℕ → (Ephemeris → Outcome → Type 0) → Outcome → Type 0
FilesHave files names count now of_ephemeris outcome =
    HoldEphemeris files names (λ e. of_ephemeris e outcome)
    ⊎ ((refusal : Refusal) × FilesStop files names count now refusal × (outcome ≡ Err refusal))

-- the same where an ephemeris has one outcome
abbrev pub FilesHaveOutcome : Option Files → List (List ℕ) → ℕ → ℕ → (Ephemeris → Outcome) → Outcome → Type 0
FilesHaveOutcome files names count now of_ephemeris outcome = FilesHave files names count now (λ e o. of_ephemeris e ≡ o) outcome

-- ---- of words
abbrev pub Words : Type 0
Words = List (String Global)

abbrev pub texts_of : Words → List (List ℕ)
texts_of words = map string_bytes words

-- the words ask for this
abbrev pub Ask : Words → Request → Type 0
Ask words request = request_of (texts_of words) ≡ Ok request

abbrev pub RequestHasOutcome : Result Request WordFault → Option Files → ℕ → ℕ → Outcome → Type 0
RequestHasOutcome (Err fault) files count now outcome = outcome ≡ Err (of_words fault)
RequestHasOutcome (Ok (Find find)) files count now outcome = FilesHaveOutcome files find.files count now (report_of find) outcome
RequestHasOutcome (Ok (Cert find)) files count now outcome = FilesHaveOutcome files find.files count now (certificate_of find) outcome
RequestHasOutcome (Ok (Verify find cert)) files count now outcome =
    FilesHave files find.files count now (λ e o. VerifyHasOutcome files find cert count now (in_ticks find.tick e) o) outcome
RequestHasOutcome (Ok (Check names)) files count now outcome = FilesHaveOutcome files names count now summary_of outcome
RequestHasOutcome (Ok (Gen blocks seed workers)) files count now outcome = outcome ≡ generation_of blocks seed
RequestHasOutcome (Ok (Set find ref2 relation)) files count now outcome = FilesHaveOutcome files find.files count now (set_of find ref2 relation) outcome
RequestHasOutcome (Ok (Scalar ask)) files count now outcome = outcome ≡ scalar_of ask

-- the run of these words over these files has this outcome; the shelf's count of faults was the first number, and is the
-- second
abbrev pub HaveOutcome : Words → Option Files → ℕ → ℕ → Outcome → Type 0
HaveOutcome words files count now outcome = RequestHasOutcome (request_of (texts_of words)) files count now outcome

-- the same request, by so many workers
abbrev pub with_workers : ℕ → Request → Request
with_workers count (Find find) = Find (record find { workers = count })
with_workers count (Cert find) = Cert (record find { workers = count })
with_workers count (Verify find cert) = Verify (record find { workers = count }) cert
with_workers count (Check names) = Check names
with_workers count (Gen blocks seed workers) = Gen blocks seed count
with_workers count (Set find ref2 relation) = Set (record find { workers = count }) ref2 relation
with_workers count (Scalar ask) = Scalar (record ask { workers = count })

-- it is refused for this cause, or memory ran out
abbrev pub HaveCause : Words → Option Files → ℕ → ℕ → Refusal → Type 0
HaveCause words files count now refusal = (refusal ≡ R.Memory) ⊎ HaveOutcome words files count now (Err refusal)
