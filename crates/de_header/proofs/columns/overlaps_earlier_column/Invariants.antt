use Rattle.std.proofs.Common.{◌≡◌, suc, drop}
use Rattle.spec_files.specs.ColumnRules.{overlaps_any}
use Rattle.de_header.proofs.columns.overlaps_earlier_column.Given as goal

abbrev pub invariant-loop-k : goal.invariant-loop-k
invariant-loop-k l = overlaps_any l.i l.column (suc l.k) (drop l.k l.earlier) ≡ overlaps_any l.i l.column 1 l.earlier
