use Rattle.std.proofs.Common.{length}
use Rattle.eph_gen.proofs.terms.+shape_among_columns.Given as goal

abbrev pub decreases-shape_among_columns : goal.decreases-shape_among_columns
decreases-shape_among_columns l = length l.columns.now
