use Rattle.std.proofs.Common.{refl}
use Rattle.spec_events.specs.Verdict.{verdict}
use Rattle.spec_events.proofs.verdict_examples.verdicts_on_a_line_find_its_rise.Goals as goal

pub returns-clause-root : goal.returns-clause-root
unfolding verdict
returns-clause-root c = refl

pub returns-clause-left : goal.returns-clause-left
unfolding verdict
returns-clause-left c = refl

pub returns-clause-below_zero : goal.returns-clause-below_zero
unfolding verdict
returns-clause-below_zero c = refl

pub returns-clause-near : goal.returns-clause-near
unfolding verdict
returns-clause-near c = refl

pub returns-clause-lower : goal.returns-clause-lower
unfolding verdict
returns-clause-lower c = refl

pub returns-clause-passing : goal.returns-clause-passing
unfolding verdict
returns-clause-passing c = refl

pub returns-clause-above_zero : goal.returns-clause-above_zero
unfolding verdict
returns-clause-above_zero c = refl
