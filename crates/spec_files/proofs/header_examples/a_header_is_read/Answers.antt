use Rattle.std.proofs.Common.{refl}
use Rattle.spec_files.specs.HeaderLines.{header}
use Rattle.spec_files.proofs.header_examples.a_header_is_read.Goals as goal

pub returns-clause-whole : goal.returns-clause-whole
unfolding header
returns-clause-whole c = refl

pub returns-clause-blank_line : goal.returns-clause-blank_line
unfolding header
returns-clause-blank_line c = refl
