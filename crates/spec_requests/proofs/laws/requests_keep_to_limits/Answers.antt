use Rattle.spec_requests.proofs.LimitLemmas.{requests_keep_to_limits}
use Rattle.spec_requests.proofs.laws.requests_keep_to_limits.Goals as goal

pub returns : goal.returns
returns c = requests_keep_to_limits
