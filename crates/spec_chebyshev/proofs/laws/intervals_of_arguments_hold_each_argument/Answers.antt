use Rattle.spec_chebyshev.proofs.Arguments.{HoldsIn-argument, IsArguments-argument}
use Rattle.spec_chebyshev.proofs.laws.intervals_of_arguments_hold_each_argument.Goals as goal

pub returns : goal.returns
returns c = record { holds = HoldsIn-argument; unit = IsArguments-argument }
