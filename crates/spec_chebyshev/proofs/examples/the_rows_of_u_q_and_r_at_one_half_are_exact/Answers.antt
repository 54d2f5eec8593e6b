use Rattle.std.proofs.Common.{refl}
use Rattle.spec_chebyshev.specs.Rows.{next, t_row, u_row, q_row, r_row}
use Rattle.spec_chebyshev.proofs.examples.the_rows_of_u_q_and_r_at_one_half_are_exact.Goals as goal

pub returns : goal.returns
unfolding next t_row u_row q_row r_row
returns c = record { u_1 = refl; u_2 = refl; q_2 = refl; r_2 = refl }
