use Rattle.std.proofs.Common.{refl}
use Rattle.spec_kinds.specs.Faults.{fault_of}
use Rattle.spec_kinds.proofs.examples.first_faults_are_reported.Goals as goal

pub returns : goal.returns
unfolding fault_of
returns c = record { absent = refl; same = refl; negative = refl; none = refl }
