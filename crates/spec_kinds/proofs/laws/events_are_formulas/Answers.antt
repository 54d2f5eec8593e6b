use Rattle.spec_kinds.proofs.Formulas.{event_formulas}
use Rattle.spec_kinds.proofs.laws.events_are_formulas.Goals as goal

pub returns : goal.returns
returns c = event_formulas
