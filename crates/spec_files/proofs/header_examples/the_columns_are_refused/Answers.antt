use Rattle.std.proofs.Common.{refl}
use Rattle.spec_files.specs.HeaderLines.{header}
use Rattle.spec_files.proofs.header_examples.the_columns_are_refused.Goals as goal

pub returns-clause-twelve_words : goal.returns-clause-twelve_words
unfolding header
returns-clause-twelve_words c = refl

pub returns-clause-sixteen_words : goal.returns-clause-sixteen_words
unfolding header
returns-clause-sixteen_words c = refl

pub returns-clause-other_count : goal.returns-clause-other_count
unfolding header
returns-clause-other_count c = refl

pub returns-clause-other_count_again : goal.returns-clause-other_count_again
unfolding header
returns-clause-other_count_again c = refl

pub returns-clause-bad_word : goal.returns-clause-bad_word
unfolding header
returns-clause-bad_word c = refl

pub returns-clause-many_coefficients : goal.returns-clause-many_coefficients
unfolding header
returns-clause-many_coefficients c = refl

pub returns-clause-past_the_block : goal.returns-clause-past_the_block
unfolding header
returns-clause-past_the_block c = refl

pub returns-clause-overlap : goal.returns-clause-overlap
unfolding header
returns-clause-overlap c = refl

pub returns-clause-part_of_a_second : goal.returns-clause-part_of_a_second
unfolding header
returns-clause-part_of_a_second c = refl

pub returns-clause-ended : goal.returns-clause-ended
unfolding header
returns-clause-ended c = refl

pub returns-clause-too_long : goal.returns-clause-too_long
unfolding header
returns-clause-too_long c = refl
