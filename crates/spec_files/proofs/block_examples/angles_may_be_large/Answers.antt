use Rattle.std.proofs.Common.{refl}
use Rattle.spec_files.specs.Blocks.{blocks}
use Rattle.spec_files.proofs.block_examples.angles_may_be_large.Goals as goal

pub returns-clause-mercury : goal.returns-clause-mercury
returns-clause-mercury c = refl

pub returns-clause-nutations : goal.returns-clause-nutations
returns-clause-nutations c = refl

pub returns-clause-librations : goal.returns-clause-librations
returns-clause-librations c = refl

pub returns-clause-block : goal.returns-clause-block
unfolding blocks
returns-clause-block c = refl
