use Rattle.std.proofs.Common.{refl}
use Rattle.spec_requests.proofs.OnLiterals.{requests_on_literals}
use Rattle.spec_requests.proofs.request_examples.cert_and_verify_are_read_as_searches.Goals as goal

pub returns : goal.returns
unfolding requests_on_literals
returns c = record { written = refl; checked = refl }
