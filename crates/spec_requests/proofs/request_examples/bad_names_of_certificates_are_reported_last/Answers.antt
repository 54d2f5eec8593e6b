use Rattle.std.proofs.Common.{refl}
use Rattle.spec_requests.proofs.OnLiterals.{requests_on_literals}
use Rattle.spec_requests.proofs.request_examples.bad_names_of_certificates_are_reported_last.Goals as goal

pub returns : goal.returns
unfolding requests_on_literals
returns c = record { unnamed = refl; empty = refl; last = refl; written = refl; found = refl }
