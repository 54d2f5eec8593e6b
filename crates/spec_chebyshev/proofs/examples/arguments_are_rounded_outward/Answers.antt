use Rattle.std.proofs.Common.{refl}
use Rattle.spec_chebyshev.specs.Rows.{argument_of}
use Rattle.spec_chebyshev.proofs.examples.arguments_are_rounded_outward.Goals as goal

pub returns : goal.returns
unfolding argument_of
returns c = record { half = refl; minus_third_to_third = refl }
