use Rattle.std.proofs.Common.{refl}
use Rattle.spec_files.specs.Blocks.{blocks}
use Rattle.spec_files.proofs.block_examples.lines_that_end_within_a_block_are_refused.Goals as goal

pub returns-clause-no_line : goal.returns-clause-no_line
unfolding blocks
returns-clause-no_line c = refl

pub returns-clause-record_line : goal.returns-clause-record_line
unfolding blocks
returns-clause-record_line c = refl

pub returns-clause-within : goal.returns-clause-within
unfolding blocks
returns-clause-within c = refl

pub returns-clause-second_block : goal.returns-clause-second_block
unfolding blocks
returns-clause-second_block c = refl
