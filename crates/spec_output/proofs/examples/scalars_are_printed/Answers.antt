use Rattle.std.proofs.Common.{refl}
use Rattle.spec_output.proofs.Literals.{number_0, number_1, number_2, number_9, number_10, number_40, number_50}
use Rattle.spec_output.proofs.examples.scalars_are_printed.Goals as goal

pub returns : goal.returns
returns c = rw (number_0, number_1, number_2, number_9, number_10, number_40, number_50) refl
