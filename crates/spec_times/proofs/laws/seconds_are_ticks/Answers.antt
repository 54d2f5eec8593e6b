use Rattle.spec_times.proofs.Ticks.{text_of_second, word_of_second}
use Rattle.spec_times.proofs.laws.seconds_are_ticks.Goals as goal

pub returns-clause-texts : goal.returns-clause-texts
returns-clause-texts c = text_of_second

pub returns-clause-words : goal.returns-clause-words
returns-clause-words c = word_of_second
