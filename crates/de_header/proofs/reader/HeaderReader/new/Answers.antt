use Rattle.std.proofs.Common.{refl}
use Rattle.spec_files.specs.HeaderLines.{header}
use Rattle.de_header.specs.Reader.{says}
use Rattle.de_header.proofs.reader.HeaderReader.new.Goals as goal

pub returns-clause-header : goal.returns-clause-header
unfolding says header
returns-clause-header c = λ file lines. refl
