use Rattle.std.proofs.Common.{refl}
use Rattle.spec_requests.proofs.OnLiterals.{requests_on_literals}
use Rattle.spec_requests.proofs.request_examples.the_first_bad_option_of_scalar_is_reported.Goals as goal

pub returns : goal.returns
unfolding requests_on_literals
returns c = record { two = refl; four = refl; large = refl; long = refl; from = refl; date = refl; file = refl }
