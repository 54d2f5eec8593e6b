use Rattle.std.proofs.Common.{refl}
use Rattle.spec_requests.proofs.OnLiterals.{requests_on_literals}
use Rattle.spec_requests.proofs.request_examples.scalar_is_read_as_a_polynomial_and_a_span.Goals as goal

pub returns : goal.returns
unfolding requests_on_literals
returns c = record { forward = refl; depth = refl }
