use Rattle.std.proofs.Common.{refl}
use Rattle.spec_files.specs.HeaderLines.{header}
use Rattle.spec_files.proofs.header_examples.some_words_are_skipped.Goals as goal

pub returns-clause-titles : goal.returns-clause-titles
unfolding header
returns-clause-titles c = refl

pub returns-clause-dates : goal.returns-clause-dates
unfolding header
returns-clause-dates c = refl

pub returns-clause-names : goal.returns-clause-names
unfolding header
returns-clause-names c = refl

pub returns-clause-values : goal.returns-clause-values
unfolding header
returns-clause-values c = refl
