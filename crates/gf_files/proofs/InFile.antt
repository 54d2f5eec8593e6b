-- The error of one file, from the error of all.
use Rattle.std.proofs.Common.{◌≡◌, ℕ, Result, Err, ap, ◌∙◌}
use Rattle.spec_text.specs.declared.decimals.Fault.{Fault}
use Rattle.spec_files.specs.declared.errors.ReadError.{ReadError}
use Rattle.spec_files.specs.declared.errors.ReadError.TheVariants as one
use Rattle.gf_files.specs.declared.errors.FilesError.{FilesError}
use Rattle.gf_files.specs.declared.errors.FilesError.TheVariants as all
use Rattle.gf_files.specs.Errors.{in_file}

pub fault_of_file : (place file : ℕ) (error : ReadError) (fault : Fault) → in_file place error ≡ all.Fault file fault → (place ≡ file) × (error ≡ one.Fault fault)
fault_of_file place file (one.Fault other) fault is = (cc, cc)
fault_of_file place file one.Memory fault is = absurd (cc)

-- an error that is passed on is that of the call
pub passed_on : {A B : Type 0} (inner : Result A FilesError) (outer : Result B FilesError) (met given error : FilesError) → inner ≡ Err met → outer ≡ Err given
    → given ≡ met → outer ≡ Err error → inner ≡ Err error
passed_on inner outer met given error was is same found =
    let all_one : met ≡ error = cc (is, same, found) in
    was ∙ ap (λ (e : FilesError). Err e) all_one
