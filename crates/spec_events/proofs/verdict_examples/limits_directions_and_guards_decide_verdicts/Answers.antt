use Rattle.std.proofs.Common.{refl}
use Rattle.spec_events.specs.Verdict.{verdict}
use Rattle.spec_events.proofs.verdict_examples.limits_directions_and_guards_decide_verdicts.Goals as goal

pub returns-clause-deep : goal.returns-clause-deep
unfolding verdict
returns-clause-deep c = refl

pub returns-clause-falls : goal.returns-clause-falls
unfolding verdict
returns-clause-falls c = refl

pub returns-clause-guarded : goal.returns-clause-guarded
unfolding verdict
returns-clause-guarded c = refl

pub returns-clause-refuted : goal.returns-clause-refuted
unfolding verdict
returns-clause-refuted c = refl

pub returns-clause-no_sign : goal.returns-clause-no_sign
unfolding verdict
returns-clause-no_sign c = refl
