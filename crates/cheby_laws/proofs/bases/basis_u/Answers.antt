use Rattle.spec_chebyshev.proofs.RowLaws.{HoldsIn-u}
use Rattle.cheby_laws.proofs.bases.basis_u.Goals as goal

pub returns-clause-holds : goal.returns-clause-holds
returns-clause-holds c u l a h k p = rw (c.fill_u.ensures.row k p) (HoldsIn-u c.args.x u l a h k)
