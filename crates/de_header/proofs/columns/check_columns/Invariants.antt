use Rattle.std.proofs.Common.{◌≡◌, [], take, drop}
use Rattle.spec_files.specs.ColumnRules.{columns_rule}
use Rattle.de_header.proofs.columns.check_columns.Given as goal

abbrev pub invariant-loop-i : goal.invariant-loop-i
invariant-loop-i l =
    columns_rule l.ncoeff l.seconds (take l.i l.columns) (drop l.i l.columns) ≡ columns_rule l.ncoeff l.seconds [] l.columns
