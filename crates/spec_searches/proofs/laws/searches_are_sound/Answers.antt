use Rattle.spec_searches.proofs.Parts.{root_is_valid, rules_are_sound}
use Rattle.spec_searches.proofs.laws.searches_are_sound.Goals as goal

pub returns-clause-rules : goal.returns-clause-rules
returns-clause-rules c = λ s is. rules_are_sound s is.view

pub returns-clause-root : goal.returns-clause-root
returns-clause-root c = λ s first last is span. root_is_valid s is.view first last span
