use Rattle.spec_events.proofs.Limits.{border_splits}
use Rattle.spec_events.proofs.laws.wide_nodes_at_a_border_are_split.Goals as goal

pub returns : goal.returns
returns c = record { split = border_splits }
