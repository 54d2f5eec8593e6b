use Rattle.spec_events.proofs.Limits.{undecided_at_limit}
use Rattle.spec_events.proofs.laws.undecided_nodes_are_at_a_limit.Goals as goal

pub returns : goal.returns
returns c = record { limit = undecided_at_limit }
