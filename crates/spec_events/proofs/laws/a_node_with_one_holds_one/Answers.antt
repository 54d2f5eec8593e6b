use Rattle.spec_events.specs.Events.{Passes}
use Rattle.spec_events.specs.Functions.{GuardsHold, IsNotNegative}
use Rattle.spec_events.specs.Soundness.{findings_of, guards_of}
use Rattle.spec_events.proofs.Evidence.{are_sound, decide}
use Rattle.spec_events.proofs.Judging.{passes_or_not, verdict_one}
use Rattle.spec_events.proofs.laws.a_node_with_one_holds_one.Goals as goal

pub returns-clause-tests : goal.returns-clause-tests
returns-clause-tests c = λ p g d n f turn s v. verdict_one (Passes p) (Passes g) (passes_or_not p) d n f s turn v

pub returns-clause-functions : goal.returns-clause-functions
returns-clause-functions c = λ exact d n e turn i v. verdict_one (IsNotNegative exact) (GuardsHold (guards_of e)) (decide exact) d n (findings_of e) (are_sound exact n e i) turn v
