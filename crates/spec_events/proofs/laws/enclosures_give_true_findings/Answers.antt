use Rattle.spec_events.proofs.Evidence.{are_sound}
use Rattle.spec_events.proofs.laws.enclosures_give_true_findings.Goals as goal

pub returns : goal.returns
returns c = record { sound = are_sound }
