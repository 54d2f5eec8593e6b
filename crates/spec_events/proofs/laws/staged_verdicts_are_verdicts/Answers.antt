use Rattle.spec_events.proofs.Stages.{staged}
use Rattle.spec_events.proofs.laws.staged_verdicts_are_verdicts.Goals as goal

pub returns : goal.returns
returns c = record { same = staged }
