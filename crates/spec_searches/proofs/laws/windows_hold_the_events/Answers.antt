use Rattle.spec_searches.proofs.Finding.{windows_are_found}
use Rattle.spec_searches.proofs.laws.windows_hold_the_events.Goals as goal

pub returns : goal.returns
returns c = λ s first last is span. windows_are_found s is first last span
