use Rattle.std.proofs.Common.{◌≡◌, [], length, take, drop}
use Rattle.spec_ephemeris.specs.declared.limits.TheConstants.{MAX_COLUMNS}
use Rattle.spec_files.specs.ColumnRules.{whole_numbers}
use Rattle.de_header.proofs.columns.read_whole_numbers.Given as goal

abbrev pub invariant-loop-i : goal.invariant-loop-i
invariant-loop-i l =
    (whole_numbers (take l.i l.numbers) (drop l.i l.line.tokens) ≡ whole_numbers [] l.line.tokens) × (length l.numbers ≡ MAX_COLUMNS)
