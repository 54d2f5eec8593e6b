use Rattle.std.proofs.Common.{refl}
use Rattle.spec_requests.proofs.OnLiterals.{requests_on_literals}
use Rattle.spec_requests.proofs.request_examples.check_and_gen_are_read_as_requests.Goals as goal

pub returns : goal.returns
unfolding requests_on_literals
returns c = record { check = refl; generated = refl }
