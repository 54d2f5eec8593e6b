use Rattle.std.proofs.Common.{refl}
use Rattle.spec_chebyshev.proofs.examples.divided_differences_of_t_3_and_u_2_are_4_and_6.Goals as goal

pub returns : goal.returns
returns c = record { t_3 = refl; u_2 = refl }
