use Rattle.std.proofs.Common.{refl}
use Rattle.spec_events.specs.Verdict.{verdict}
use Rattle.spec_events.proofs.verdict_examples.nodes_at_a_border_are_split_down_to_one_tick.Goals as goal

pub returns-clause-wide : goal.returns-clause-wide
unfolding verdict
returns-clause-wide c = refl

pub returns-clause-deep : goal.returns-clause-deep
unfolding verdict
returns-clause-deep c = refl

pub returns-clause-single : goal.returns-clause-single
unfolding verdict
returns-clause-single c = refl
