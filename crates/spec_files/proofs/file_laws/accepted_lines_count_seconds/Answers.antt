use Rattle.spec_files.proofs.Holding.{holds_ok}
use Rattle.spec_ephemeris.specs.Ticks.{IsInSeconds}
use Rattle.spec_files.specs.Lines.{ephemeris}
use Rattle.spec_files.proofs.Lines.{seconds_hold}
use Rattle.spec_files.proofs.file_laws.accepted_lines_count_seconds.Goals as goal

pub returns : goal.returns
returns c = λ lines e is. holds_ok IsInSeconds (ephemeris lines) e is (seconds_hold lines)
