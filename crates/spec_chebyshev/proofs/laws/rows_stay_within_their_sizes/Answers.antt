use Rattle.spec_chebyshev.proofs.RowEnds.{EndsWithin-t, EndsWithin-u, EndsWithin-q, EndsWithin-r}
use Rattle.spec_chebyshev.proofs.laws.rows_stay_within_their_sizes.Goals as goal

pub returns : goal.returns
returns c = record { t = EndsWithin-t; u = EndsWithin-u; q = EndsWithin-q; r = EndsWithin-r }
