use Rattle.std.proofs.Common.{refl}
use Rattle.spec_files.specs.Blocks.{blocks}
use Rattle.spec_files.proofs.block_examples.blocks_go_on_in_the_next_file.Goals as goal

pub returns-clause-whole : goal.returns-clause-whole
unfolding blocks
returns-clause-whole c = refl

pub returns-clause-bad : goal.returns-clause-bad
unfolding blocks
returns-clause-bad c = refl
