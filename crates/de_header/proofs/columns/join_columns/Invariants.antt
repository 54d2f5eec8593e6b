use Rattle.std.proofs.Common.{◌≡◌, length, take}
use Rattle.spec_ephemeris.specs.declared.limits.TheConstants.{MAX_COLUMNS}
use Rattle.spec_files.specs.ColumnRules.{columns_of}
use Rattle.de_header.proofs.columns.join_columns.Given as goal

abbrev pub invariant-loop-i : goal.invariant-loop-i
invariant-loop-i l = (take l.i l.columns ≡ columns_of (take l.i l.starts) (take l.i l.coefs) (take l.i l.granules)) × (length l.columns ≡ MAX_COLUMNS)
