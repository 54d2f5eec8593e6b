use Rattle.std.proofs.Common.{refl}
use Rattle.spec_requests.proofs.OnLiterals.{requests_on_literals}
use Rattle.spec_requests.proofs.request_examples.find_is_read_as_a_search.Goals as goal

pub returns : goal.returns
unfolding requests_on_literals
returns c = record { defaults = refl; milliseconds = refl; behind = refl }
