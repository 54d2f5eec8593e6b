use Rattle.std.proofs.Common.{refl}
use Rattle.spec_files.specs.Blocks.{blocks}
use Rattle.spec_files.proofs.block_examples.words_after_a_block_are_zeros.Goals as goal

pub returns-clause-zeros : goal.returns-clause-zeros
unfolding blocks
returns-clause-zeros c = refl

pub returns-clause-one : goal.returns-clause-one
unfolding blocks
returns-clause-one c = refl

pub returns-clause-no_number : goal.returns-clause-no_number
unfolding blocks
returns-clause-no_number c = refl
