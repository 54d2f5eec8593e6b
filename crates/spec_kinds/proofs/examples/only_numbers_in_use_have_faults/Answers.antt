use Rattle.std.proofs.Common.{refl}
use Rattle.spec_kinds.specs.Faults.{fault_of}
use Rattle.spec_kinds.proofs.examples.only_numbers_in_use_have_faults.Goals as goal

pub returns : goal.returns
unfolding fault_of
returns c = record { earth = refl; cosine = refl; radius = refl }
