-- The file of a certificate: the outcome of a run that reads one is that of its text, or the cause why it is not read. The shelf's
-- count of faults was the first number, and is the second.
use Rattle.std.specs.Prelude.{◌≡◌, ◌⊎◌, ◌≤◌, ℕ, List, length, Option, None, Some, Err}
use Rattle.spec_faults.specs.declared.numbers.TheConstants.{FILE_TOO_LARGE}
use Rattle.spec_text.specs.declared.limits.TheConstants.{MAX_TEXT_BYTES}
use Rattle.spec_ephemeris.specs.Ephemeris.{Ephemeris}
use Rattle.spec_files.specs.Files.{IsFile, IsLongFile}
use Rattle.spec_files.specs.Texts.{fault_at}
use Rattle.spec_requests.specs.declared.request.FindAsk.{FindAsk}
use Rattle.gf_edges.specs.Edges.{Files, Lacks, Rose}
use Rattle.spec_outcomes.specs.declared.refusal.Refusal.{Refusal}
use Rattle.spec_outcomes.specs.declared.refusal.Refusal.TheVariants.{File, NotRead}
use Rattle.spec_outcomes.specs.Outcomes.{Outcome, cause_of}
use Rattle.spec_outcomes.specs.Certificates.{verification_of}
use Rattle.spec_outcomes.specs.Queries.{query_of, search, span_of}

-- the file is there, with a text that is no longer than one may be and that P holds for
pub record HoldsText (files : Option Files) (name : List ℕ) (P : List ℕ → Type 0) : Type 0 where
  pub text : List ℕ
  pub there : IsFile files name text
  pub small : length text ≤ MAX_TEXT_BYTES
  pub is : P text

-- the file is longer than one may be
pub record IsTooLong (files : Option Files) (name : List ℕ) (refusal : Refusal) : Type 0 where
  pub long : IsLongFile files name
  pub same : refusal ≡ File name (fault_at 0 FILE_TOO_LARGE)

-- the file is not there, or the shelf failed
pub record IsAbsent (files : Option Files) (name : List ℕ) (count now : ℕ) (refusal : Refusal) : Type 0 where
  pub cause : Rose count now ⊎ Lacks files name
  pub same : refusal ≡ NotRead name

-- why a certificate is not read
abbrev pub CertificateStops : Option Files → List ℕ → ℕ → ℕ → Refusal → Type 0
CertificateStops files name count now refusal = IsTooLong files name refusal ⊎ IsAbsent files name count now refusal

-- a certificate that is read has the outcome of its text
abbrev pub CertificateHasOutcome : Option Files → List ℕ → ℕ → ℕ → (List ℕ → Outcome) → Outcome → Type 0
CertificateHasOutcome files name count now of_text outcome =
    HoldsText files name (λ text. of_text text ≡ outcome)
    ⊎ ((refusal : Refusal) × CertificateStops files name count now refusal × (outcome ≡ Err refusal))

-- a cause against the search is the outcome, and else P
abbrev pub CauseOr : Option Refusal → Outcome → Type 0 → Type 0
CauseOr (Some refusal) outcome P = outcome ≡ Err refusal
CauseOr None outcome P = P

-- the outcome of `verify` over an ephemeris that counts the ticks of the search: a certificate is opened only where its search could be
-- made
abbrev pub VerifyHasOutcome : Option Files → FindAsk → List ℕ → ℕ → ℕ → Ephemeris → Outcome → Type 0
VerifyHasOutcome files find cert count now e outcome =
    CauseOr (cause_of (query_of find) e (span_of find e)) outcome
    (CertificateHasOutcome files cert count now (verification_of find (search (query_of find) e) (span_of find e)) outcome)
