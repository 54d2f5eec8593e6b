use Rattle.std.proofs.Common.{refl}
use Rattle.spec_files.specs.Blocks.{blocks}
use Rattle.spec_files.proofs.block_examples.record_lines_are_refused.Goals as goal

pub returns-clause-one_word : goal.returns-clause-one_word
unfolding blocks
returns-clause-one_word c = refl

pub returns-clause-three_words : goal.returns-clause-three_words
unfolding blocks
returns-clause-three_words c = refl

pub returns-clause-no_number : goal.returns-clause-no_number
unfolding blocks
returns-clause-no_number c = refl

pub returns-clause-other_number : goal.returns-clause-other_number
unfolding blocks
returns-clause-other_number c = refl

pub returns-clause-other_count : goal.returns-clause-other_count
unfolding blocks
returns-clause-other_count c = refl

pub returns-clause-record_zero : goal.returns-clause-record_zero
unfolding blocks
returns-clause-record_zero c = refl

pub returns-clause-after_a_block : goal.returns-clause-after_a_block
unfolding blocks
returns-clause-after_a_block c = refl
