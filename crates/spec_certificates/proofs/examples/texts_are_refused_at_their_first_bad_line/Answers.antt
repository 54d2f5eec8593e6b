use Rattle.std.proofs.Common.{refl}
use Rattle.spec_certificates.specs.Checks.{checked, leaves_from}
use Rattle.spec_certificates.specs.Places.{waiting_after, waiting_within}
use Rattle.spec_certificates.proofs.examples.texts_are_refused_at_their_first_bad_line.Goals as goal

pub returns : goal.returns
unfolding checked leaves_from waiting_after waiting_within
returns c = record { mark = refl; turn = refl; gap = refl; depth = refl; early = refl }
