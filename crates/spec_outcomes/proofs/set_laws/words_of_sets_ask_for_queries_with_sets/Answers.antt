use Rattle.spec_outcomes.proofs.SetSigns.{asked_for_sets, other_is}
use Rattle.spec_outcomes.proofs.set_laws.words_of_sets_ask_for_queries_with_sets.Goals as goal

pub returns-clause-asked : goal.returns-clause-asked
returns-clause-asked c = asked_for_sets

pub returns-clause-other : goal.returns-clause-other
returns-clause-other c = other_is
