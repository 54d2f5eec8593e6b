use Rattle.spec_chebyshev.proofs.RowLaws.{HoldsIn-r}
use Rattle.cheby_laws.proofs.bases.basis_r.Goals as goal

pub returns-clause-holds : goal.returns-clause-holds
returns-clause-holds c a u l g h ha hu k p = rw (c.fill_ur.ensures.r_row k p) (HoldsIn-r c.args.x a u l g h ha hu k)
