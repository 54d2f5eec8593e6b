-- The ephemeris of the lines of all files: a header, and blocks after it.
use Rattle.std.specs.Prelude.{List, Result}
use Rattle.spec_ephemeris.specs.Ephemeris.{Ephemeris}
use Rattle.spec_files.specs.Sections.{FileLine, Stop, ◌>>=◌}
use Rattle.spec_files.specs.HeaderLines.{header}
use Rattle.spec_files.specs.Blocks.{blocks}

abbrev pub ephemeris : List FileLine → Result Ephemeris Stop
ephemeris lines = do
  found ← header lines
  blocks found.0 found.1
