use Rattle.spec_events.specs.Events.{Happens, IsTurn, Passes}
use Rattle.spec_events.specs.Functions.{EventsOf}
use Rattle.spec_events.proofs.Windowing.{windows_are}
use Rattle.spec_events.proofs.laws.windows_of_a_covered_span_hold_its_events.Goals as goal

pub returns-clause-are_windows : goal.returns-clause-are_windows
returns-clause-are_windows c = λ e u a b ls d h. windows_are (Happens e) (Passes u) a b ls d h

pub returns-clause-of_turns : goal.returns-clause-of_turns
returns-clause-of_turns c = λ p u a b ls d h. windows_are (IsTurn (Passes p)) (Passes u) a b ls d h

pub returns-clause-of_functions : goal.returns-clause-of_functions
returns-clause-of_functions c = λ exact dir guards u a b ls d h. windows_are (EventsOf exact dir guards) (Passes u) a b ls d h
