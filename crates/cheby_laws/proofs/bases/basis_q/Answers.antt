use Rattle.spec_chebyshev.proofs.RowLaws.{HoldsIn-q}
use Rattle.cheby_laws.proofs.bases.basis_q.Goals as goal

pub returns-clause-holds : goal.returns-clause-holds
returns-clause-holds c a u l g h ha hu k p = rw (c.fill_tq.ensures.q_row k p) (HoldsIn-q c.args.x a u l g h ha hu k)
