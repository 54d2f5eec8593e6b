use Rattle.std.proofs.Common.{refl}
use Rattle.spec_chebyshev.specs.Rows.{next, t_row}
use Rattle.spec_chebyshev.proofs.examples.the_row_of_t_at_one_half_is_exact.Goals as goal

pub returns : goal.returns
unfolding next t_row
returns c = record { t_0 = refl; t_1 = refl; t_2 = refl; t_3 = refl }
