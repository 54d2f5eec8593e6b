use Rattle.spec_meanings.proofs.DiscMeanings.{annular_conditions, any_conditions, full_conditions}
use Rattle.spec_meanings.proofs.laws.conditions_of_occultations_compare_discs.Goals as goal

pub returns-clause-any : goal.returns-clause-any
returns-clause-any c = any_conditions

pub returns-clause-full : goal.returns-clause-full
returns-clause-full c = full_conditions

pub returns-clause-annular : goal.returns-clause-annular
returns-clause-annular c = annular_conditions
