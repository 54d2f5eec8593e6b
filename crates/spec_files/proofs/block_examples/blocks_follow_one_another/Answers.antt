use Rattle.std.proofs.Common.{refl}
use Rattle.spec_files.specs.Blocks.{blocks}
use Rattle.spec_files.proofs.block_examples.blocks_follow_one_another.Goals as goal

pub returns-clause-one : goal.returns-clause-one
unfolding blocks
returns-clause-one c = refl

pub returns-clause-two : goal.returns-clause-two
unfolding blocks
returns-clause-two c = refl

pub returns-clause-repeated : goal.returns-clause-repeated
unfolding blocks
returns-clause-repeated c = refl
