use Rattle.std.proofs.Common.{length}
use Rattle.spec_faults.proofs.table.+kind_among.Given as goal

abbrev pub decreases-kind_among : goal.decreases-kind_among
decreases-kind_among l = length l.rows.now
