-- What a run that is not refused writes to its output, and whether it opens a file. Known bytes were the first list, and are the
-- second.
use Rattle.std.specs.Prelude.{◌≡◌, ◌⊎◌, ◌<◌, ℕ, List, length, Option, IsSome, Result, Ok, Err}
use Rattle.std.specs.Io.KnownBytes.{Appends}
use Rattle.spec_files.specs.declared.limits.TheConstants.{MAX_FILES}
use Rattle.spec_requests.specs.declared.request.Request.{Request}
use Rattle.spec_requests.specs.declared.request.Request.TheVariants.{Find, Cert, Verify, Check, Gen, Set, Scalar}
use Rattle.spec_requests.specs.declared.request.WordFault.{WordFault}
use Rattle.spec_requests.specs.Requests.{request_of}
use Rattle.spec_output.specs.Writing.{AppendsPart}
use Rattle.gf_edges.specs.Edges.{Files}
use Rattle.gf_find.specs.Outcomes.{HaveOutcome, Words, texts_of}

-- the whole text of the run's outcome
abbrev pub ReportsWhole : Words → Option Files → ℕ → ℕ → Option (List ℕ) → Option (List ℕ) → Type 0
ReportsWhole words files count now old new = (text : List ℕ) × HaveOutcome words files count now (Ok text) × Appends old new text

-- a prefix of the text of the run's outcome, which is not all of it
abbrev pub ReportsPart : Words → Option Files → ℕ → ℕ → Option (List ℕ) → Option (List ℕ) → Type 0
ReportsPart words files count now old new = (text : List ℕ) × HaveOutcome words files count now (Ok text) × AppendsPart old new text

-- ---- whether a file is opened
-- none is where there are too many names, or no name
abbrev pub AreNotOpened : List (List ℕ) → Type 0
AreNotOpened names = (length names ≡ 0) ⊎ (MAX_FILES < length names)

-- none is where the command line is invalid, or asks for a generated text or a polynomial
abbrev pub OpensNone : Result Request WordFault → Type 0
OpensNone (Err fault) = Unit {0}
OpensNone (Ok (Find find)) = AreNotOpened find.files
OpensNone (Ok (Cert find)) = AreNotOpened find.files
OpensNone (Ok (Verify find cert)) = AreNotOpened find.files
OpensNone (Ok (Check names)) = AreNotOpened names
OpensNone (Ok (Gen blocks seed workers)) = Unit {0}
OpensNone (Ok (Set find ref2 relation)) = AreNotOpened find.files
OpensNone (Ok (Scalar ask)) = Unit {0}

-- no file is opened, or it is known which files there are
abbrev pub KnowsFiles : Words → Option Files → Type 0
KnowsFiles words files = OpensNone (request_of (texts_of words)) ⊎ IsSome files
