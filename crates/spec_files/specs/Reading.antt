-- What the reading of named files comes to: they are accepted, one of them has the first fault, or one cannot be read.
-- Files are counted from 0.
use Rattle.std.specs.Prelude.{◌≡◌, ◌⊎◌, ℕ, ◌+◌, ◌<◌, ◌≤◌, List, ◌++◌, length, take, slice_get, Option, None, Some, Ok, Err}
use Rattle.spec_text.specs.declared.decimals.Fault.{Fault}
use Rattle.spec_ephemeris.specs.Ephemeris.{Ephemeris}
use Rattle.gf_edges.specs.Edges.{Files, Lacks, Rose}
use Rattle.spec_files.specs.declared.limits.TheConstants.{MAX_FILES}
use Rattle.spec_faults.specs.declared.numbers.TheConstants.{TOO_MANY_FILES}
use Rattle.spec_files.specs.Files.{AreFiles}
use Rattle.spec_files.specs.Outcome.{first_fault, outcome}
use Rattle.spec_files.specs.Texts.{end_line, fault_at}

-- the files of these names are the ephemeris, and the lines of the last one end at this number
pub record AreAccepted (files : Option Files) (names : List (List ℕ)) (e : Ephemeris) (end : ℕ) : Type 0 where
  pub few : length names ≤ MAX_FILES
  pub texts : List (List ℕ)
  pub there : AreFiles files names texts
  pub accepted : outcome texts ≡ Ok e
  pub ends : end ≡ end_line texts

-- there are too many names, and the fault is that of the first that is one too many
pub record AreTooMany (names : List (List ℕ)) (file : ℕ) (fault : Fault) : Type 0 where
  pub many : MAX_FILES < length names
  pub first : file ≡ MAX_FILES
  pub same : fault ≡ fault_at 0 TOO_MANY_FILES

-- the fault is the first of these texts, whatever texts follow
abbrev pub StaysFirst : List (List ℕ) → ℕ → Fault → Type 0
StaysFirst texts file fault = (later : List (List ℕ)) → first_fault (texts ++ later) ≡ Some (file, fault)

-- the files up to this one are there, and the fault, which is in this one, is the first of their texts whatever files
-- follow, or of the texts of all files
pub record HasFirstFault (files : Option Files) (names : List (List ℕ)) (file : ℕ) (fault : Fault) : Type 0 where
  pub few : length names ≤ MAX_FILES
  pub inside : file < length names
  pub texts : List (List ℕ)
  pub there : AreFiles files (take (file + 1) names) texts
  pub first : StaysFirst texts file fault ⊎ ((file + 1 ≡ length names) × (outcome texts ≡ Err (file, fault)))

-- the names are too many, or this file has the first fault
abbrev pub AreRefused : Option Files → List (List ℕ) → ℕ → Fault → Type 0
AreRefused files names file fault = AreTooMany names file fault ⊎ HasFirstFault files names file fault

-- the files before this one are there and have no fault, and the shelf's count rose, or the shelf lacks this one
pub record IsNotRead (files : Option Files) (names : List (List ℕ)) (count now file : ℕ) : Type 0 where
  pub few : length names ≤ MAX_FILES
  pub name : List ℕ
  pub here : slice_get names file ≡ Some name
  pub texts : List (List ℕ)
  pub before : AreFiles files (take file names) texts
  pub sound : first_fault texts ≡ None
  pub cause : Rose count now ⊎ Lacks files name
