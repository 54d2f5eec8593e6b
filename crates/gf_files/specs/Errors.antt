-- The error of one file among several.
use Rattle.std.specs.Prelude.{ℕ}
use Rattle.spec_files.specs.declared.errors.ReadError.{ReadError}
use Rattle.spec_files.specs.declared.errors.ReadError.TheVariants as one
use Rattle.gf_files.specs.declared.errors.FilesError.{FilesError}
use Rattle.gf_files.specs.declared.errors.FilesError.TheVariants as all

-- the error of the lines of the file of this number
abbrev pub in_file : ℕ → ReadError → FilesError
in_file file (one.Fault fault) = all.Fault file fault
in_file file one.Memory = all.Memory
