use Rattle.spec_chebyshev.proofs.Sizes.{Within-t, Within-u}
use Rattle.spec_chebyshev.proofs.laws.polynomials_are_bounded.Goals as goal

pub returns : goal.returns
returns c = record { first_kind = Within-t; second_kind = Within-u }
