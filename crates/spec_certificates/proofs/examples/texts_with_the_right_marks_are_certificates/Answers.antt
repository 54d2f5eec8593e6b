use Rattle.std.proofs.Common.{refl}
use Rattle.spec_certificates.specs.Checks.{checked, leaves_from}
use Rattle.spec_certificates.specs.Places.{waiting_after, waiting_within}
use Rattle.spec_certificates.proofs.examples.texts_with_the_right_marks_are_certificates.Goals as goal

pub returns : goal.returns
unfolding checked leaves_from waiting_after waiting_within
returns c = record { whole = refl; fall = refl; undecided = refl; further = refl }
