use Rattle.std.proofs.Common.{refl}
use Rattle.spec_files.proofs.file_examples.lines_keep_their_file_and_number.Goals as goal

pub returns-clause-lines : goal.returns-clause-lines
returns-clause-lines c = refl

pub returns-clause-end : goal.returns-clause-end
returns-clause-end c = refl
