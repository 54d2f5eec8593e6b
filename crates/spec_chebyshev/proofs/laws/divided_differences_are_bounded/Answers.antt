use Rattle.spec_chebyshev.proofs.Sizes.{Within-q, Within-r}
use Rattle.spec_chebyshev.proofs.laws.divided_differences_are_bounded.Goals as goal

pub returns : goal.returns
returns c = record { first_kind = Within-q; second_kind = Within-r }
