use Rattle.std.proofs.Common.{refl}
use Rattle.spec_chebyshev.proofs.examples.the_divided_difference_of_u_3_is_at_most_20.Goals as goal

pub returns : goal.returns
returns c = record { three = refl }
