use Rattle.spec_events.specs.Events.{Passes}
use Rattle.spec_events.specs.Functions.{GuardsHold, IsNotNegative}
use Rattle.spec_events.specs.Soundness.{findings_of, guards_of}
use Rattle.spec_events.proofs.Evidence.{are_sound, decide}
use Rattle.spec_events.proofs.Judging.{passes_or_not, verdict_clear}
use Rattle.spec_events.proofs.laws.a_clear_node_holds_no_event.Goals as goal

pub returns-clause-tests : goal.returns-clause-tests
returns-clause-tests c = λ p g d n f s v. verdict_clear (Passes p) (Passes g) (passes_or_not p) d n f s v

pub returns-clause-functions : goal.returns-clause-functions
returns-clause-functions c = λ exact d n e i v. verdict_clear (IsNotNegative exact) (GuardsHold (guards_of e)) (decide exact) d n (findings_of e) (are_sound exact n e i) v
