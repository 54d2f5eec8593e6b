use Rattle.std.proofs.Common.{ap}
use Rattle.spec_ephemeris.specs.Ephemeris.{Ephemeris}
use Rattle.spec_files.specs.Blocks.{blocks}
use Rattle.de_blocks.specs.Reader.{from_record, says}
use Rattle.de_blocks.proofs.reader.BlockReader.with_rounding.Goals as goal

pub returns-clause-blocks : goal.returns-clause-blocks
unfolding says blocks
returns-clause-blocks c = λ file lines. ap (λ (e : Ephemeris). from_record e lines) c.new.ensures.accepted
