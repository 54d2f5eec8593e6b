use Rattle.std.proofs.Common.{refl}
use Rattle.spec_files.specs.Blocks.{blocks}
use Rattle.spec_files.proofs.block_examples.numbers_are_refused.Goals as goal

pub returns-clause-no_number : goal.returns-clause-no_number
unfolding blocks
returns-clause-no_number c = refl

pub returns-clause-many_digits : goal.returns-clause-many_digits
unfolding blocks
returns-clause-many_digits c = refl

pub returns-clause-too_large : goal.returns-clause-too_large
unfolding blocks
returns-clause-too_large c = refl

pub returns-clause-first_of_two : goal.returns-clause-first_of_two
unfolding blocks
returns-clause-first_of_two c = refl

pub returns-clause-of_a_skipped_block : goal.returns-clause-of_a_skipped_block
unfolding blocks
returns-clause-of_a_skipped_block c = refl
