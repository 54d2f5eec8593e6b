use Rattle.std.proofs.Common.{refl}
use Rattle.spec_requests.proofs.OnLiterals.{requests_on_literals}
use Rattle.spec_requests.proofs.request_examples.set_is_read_as_a_search_with_a_relation.Goals as goal

pub returns : goal.returns
unfolding requests_on_literals
returns c = record { below = refl; between = refl; outside = refl }
