use Rattle.std.proofs.Common.{refl}
use Rattle.spec_requests.proofs.OnLiterals.{requests_on_literals}
use Rattle.spec_requests.proofs.request_examples.the_first_bad_option_of_set_is_reported.Goals as goal

pub returns : goal.returns
unfolding requests_on_literals
returns c = record { kind = refl; unnamed = refl; station = refl; one = refl; two = refl; direction = refl }
