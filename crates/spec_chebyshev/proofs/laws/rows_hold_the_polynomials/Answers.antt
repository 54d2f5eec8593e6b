use Rattle.spec_chebyshev.proofs.RowLaws.{HoldsIn-t, HoldsIn-u, HoldsIn-q, HoldsIn-r}
use Rattle.spec_chebyshev.proofs.laws.rows_hold_the_polynomials.Goals as goal

pub returns : goal.returns
returns c = record { t = HoldsIn-t; u = HoldsIn-u; q = HoldsIn-q; r = HoldsIn-r }
