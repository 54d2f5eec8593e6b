use Rattle.spec_chebyshev.proofs.RowEnds.{t_ordered, u_ordered, q_ordered, r_ordered}
use Rattle.spec_chebyshev.proofs.laws.rows_have_ends_in_order.Goals as goal

pub returns : goal.returns
returns c = record { t = t_ordered; u = u_ordered; q = q_ordered; r = r_ordered }
