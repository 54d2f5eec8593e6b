-- Another time at which an ephemeris begins.
use Rattle.std.specs.Prelude.{ℤ}
use Rattle.spec_ephemeris.specs.Ephemeris.{Ephemeris}

-- the same blocks, the first of which begins at this time
abbrev pub starting_at : Ephemeris → ℤ → Ephemeris
starting_at e start = record { header = e.header; start = start; blocks = e.blocks; numbers = e.numbers }
