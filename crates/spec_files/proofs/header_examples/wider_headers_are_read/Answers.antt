use Rattle.std.proofs.Common.{refl}
use Rattle.spec_files.specs.HeaderLines.{header}
use Rattle.spec_files.proofs.header_examples.wider_headers_are_read.Goals as goal

pub returns-clause-fourteen : goal.returns-clause-fourteen
unfolding header
returns-clause-fourteen c = refl

pub returns-clause-fifteen : goal.returns-clause-fifteen
unfolding header
returns-clause-fifteen c = refl

pub returns-clause-not_checked : goal.returns-clause-not_checked
unfolding header
returns-clause-not_checked c = refl

pub returns-clause-longest_block : goal.returns-clause-longest_block
unfolding header
returns-clause-longest_block c = refl
