use Rattle.std.proofs.Common.{refl}
use Rattle.spec_files.specs.Blocks.{blocks}
use Rattle.spec_files.proofs.block_examples.dates_of_blocks_are_refused.Goals as goal

pub returns-clause-first_date : goal.returns-clause-first_date
unfolding blocks
returns-clause-first_date c = refl

pub returns-clause-second_date : goal.returns-clause-second_date
unfolding blocks
returns-clause-second_date c = refl

pub returns-clause-length : goal.returns-clause-length
unfolding blocks
returns-clause-length c = refl

pub returns-clause-gap : goal.returns-clause-gap
unfolding blocks
returns-clause-gap c = refl

pub returns-clause-half : goal.returns-clause-half
unfolding blocks
returns-clause-half c = refl

pub returns-clause-skipped : goal.returns-clause-skipped
unfolding blocks
returns-clause-skipped c = refl

pub returns-clause-most : goal.returns-clause-most
returns-clause-most c = refl

pub returns-clause-too_many : goal.returns-clause-too_many
returns-clause-too_many c = refl

pub returns-clause-one_more_skipped : goal.returns-clause-one_more_skipped
returns-clause-one_more_skipped c = refl
