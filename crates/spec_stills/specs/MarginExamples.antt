-- Short names for worked values.
use Rattle.std.specs.Prelude.{[], ℤ, pos}
use Rattle.spec_numbers.specs.Numbers.{minus}
use Rattle.spec_intervals.specs.Interval.{interval}
use Rattle.spec_ephemeris.specs.Examples.{whole}
use Rattle.spec_expressions.specs.Term.{length}
use Rattle.spec_events.specs.declared.dir.Dir.TheVariants as D
use Rattle.spec_searches.specs.Search.{Search}
use Rattle.spec_models.specs.Bounds.{Bound}

-- a search whose function is so many km at each time
abbrev pub level : ℤ → Search → Search
level km s = record s { event = record { function = length (whole km); conditions = []; dir = D.Any } }

-- steps from -3 to 2, and a range in units of 2^s
abbrev pub walk : ℤ → Bound
walk s = record { range = interval (pos 40) (pos 90) s; step = interval (minus 3) (pos 2) (pos 0) }
