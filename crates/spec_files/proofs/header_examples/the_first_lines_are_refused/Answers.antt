use Rattle.std.proofs.Common.{refl}
use Rattle.spec_files.specs.HeaderLines.{header}
use Rattle.spec_files.proofs.header_examples.the_first_lines_are_refused.Goals as goal

pub returns-clause-no_ncoeff : goal.returns-clause-no_ncoeff
unfolding header
returns-clause-no_ncoeff c = refl

pub returns-clause-few_numbers : goal.returns-clause-few_numbers
unfolding header
returns-clause-few_numbers c = refl

pub returns-clause-other_group : goal.returns-clause-other_group
unfolding header
returns-clause-other_group c = refl

pub returns-clause-two_dates : goal.returns-clause-two_dates
unfolding header
returns-clause-two_dates c = refl

pub returns-clause-part_of_a_second : goal.returns-clause-part_of_a_second
unfolding header
returns-clause-part_of_a_second c = refl

pub returns-clause-before_day_zero : goal.returns-clause-before_day_zero
unfolding header
returns-clause-before_day_zero c = refl

pub returns-clause-no_block : goal.returns-clause-no_block
unfolding header
returns-clause-no_block c = refl

pub returns-clause-long_block : goal.returns-clause-long_block
unfolding header
returns-clause-long_block c = refl
