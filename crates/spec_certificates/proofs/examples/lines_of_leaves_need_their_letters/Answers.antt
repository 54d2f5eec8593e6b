use Rattle.std.proofs.Common.{refl}
use Rattle.spec_certificates.specs.Checks.{checked, leaves_from}
use Rattle.spec_certificates.specs.Places.{waiting_after, waiting_within}
use Rattle.spec_certificates.proofs.examples.lines_of_leaves_need_their_letters.Goals as goal

pub returns : goal.returns
unfolding checked leaves_from waiting_after waiting_within
returns c = record { word = refl; letter = refl }
