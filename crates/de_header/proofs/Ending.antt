-- The header that a reader gives at the end.
use Rattle.std.proofs.Common.{◌≡◌, ℕ, List, Result, Ok, Err, sym, subst}
use Rattle.std.specs.Prelude.{IfOk}
use Rattle.spec_ephemeris.specs.Header.{IsHeader}
use Rattle.spec_ephemeris.specs.declared.header.Header.{Header}
use Rattle.spec_files.specs.HeaderLines.{HeaderOrStop, header}
use Rattle.spec_files.specs.Sections.{FileLine}
use Rattle.spec_files.proofs.AcceptedHeaders.{accepted_header}
use Rattle.spec_files.specs.declared.errors.ReadError.{ReadError}
use Rattle.de_header.specs.Reader.{Ends}

pub meets_rules : (end : ℕ) (said : HeaderOrStop) (result : Result Header ReadError) (lines : List FileLine) → Ends end said result → said ≡ header lines → IfOk result IsHeader
meets_rules end (Ok x) (Ok h) lines ends is = subst IsHeader (sym ends) (accepted_header lines x.0 x.1 (sym is))
meets_rules end (Err stop) (Ok h) lines ends is = absurd ends
meets_rules end said (Err e) lines ends is = tt
