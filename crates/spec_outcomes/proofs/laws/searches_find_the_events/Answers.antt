use Rattle.spec_outcomes.proofs.Searching.{events_found}
use Rattle.spec_outcomes.proofs.laws.searches_find_the_events.Goals as goal

pub returns : goal.returns
returns c = λ q e span checked block is none. events_found q e checked block is span none
