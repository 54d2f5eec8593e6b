use Rattle.spec_chebyshev.proofs.RowLaws.{HoldsIn-t}
use Rattle.cheby_laws.proofs.bases.basis_t.Goals as goal

pub returns-clause-holds : goal.returns-clause-holds
returns-clause-holds c u l a h k p = rw (c.fill_t.ensures.row k p) (HoldsIn-t c.args.x u l a h k)
