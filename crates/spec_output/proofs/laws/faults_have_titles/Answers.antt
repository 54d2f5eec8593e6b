use Rattle.std.proofs.Common.{refl}
use Rattle.spec_faults.specs.Faults.{fault_kind}
use Rattle.spec_output.specs.Messages.{title}
use Rattle.spec_output.proofs.laws.faults_have_titles.Goals as goal

pub returns : goal.returns
unfolding title fault_kind
returns c = record { name = refl; detail = refl; words = refl; no_row = refl }
