use Rattle.spec_chebyshev.proofs.Bounds.{t_within, u_within, q_within, r_within}
use Rattle.spec_chebyshev.proofs.laws.first_entries_fit.Goals as goal

pub returns : goal.returns
returns c = record { t = t_within; u = u_within; q = q_within; r = r_within }
