use Rattle.spec_files.proofs.Holding.{holds_ok}
use Rattle.spec_files.specs.Lines.{ephemeris}
use Rattle.spec_files.proofs.Lines.{HasBlocks, ephemeris_holds}
use Rattle.spec_files.proofs.file_laws.accepted_lines_are_an_ephemeris.Goals as goal

pub returns-clause-checked : goal.returns-clause-checked
returns-clause-checked c = λ lines e is. (holds_ok HasBlocks (ephemeris lines) e is (ephemeris_holds lines)).0

pub returns-clause-some : goal.returns-clause-some
returns-clause-some c = λ lines e is. (holds_ok HasBlocks (ephemeris lines) e is (ephemeris_holds lines)).1
