use Rattle.std.proofs.Common.{refl}
use Rattle.spec_certificates.specs.Checks.{checked, leaves_from}
use Rattle.spec_certificates.specs.Places.{waiting_after, waiting_within}
use Rattle.spec_certificates.proofs.examples.ends_that_miscount_or_come_early_are_refused.Goals as goal

pub returns : goal.returns
unfolding checked leaves_from waiting_after waiting_within
returns c = record { word = refl; name = refl; more = refl; fewer = refl; waiting = refl; leaf = refl; after = refl }
