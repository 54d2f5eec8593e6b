-- The numbers of bodies rounded outward to whole numbers of units of 2^-24 km.
use Rattle.std.specs.Prelude.{ℕ, nat_le, List, [], map, if◌then◌else◌}
use Rattle.spec_text.specs.declared.decimals.Decimal.{Decimal}
use Rattle.spec_intervals.specs.Interval.{Interval, distance_exponent, from_decimal}
use Rattle.spec_ephemeris.specs.declared.granule.Rounded.{Rounded}
use Rattle.spec_ephemeris.specs.declared.limits.TheConstants.{BODY_COLUMNS}

abbrev pub ends_of : Interval → Rounded
ends_of t = record { lo = t.lo; hi = t.hi }

-- the ends of the interval of a number in these units
abbrev pub pair_of : Decimal → Rounded
pair_of d = ends_of (from_decimal d.mant d.exp distance_exponent)

-- the pairs of a column's numbers, in their order; only those of bodies are rounded
abbrev pub pairs_of : ℕ → List Decimal → List Rounded
pairs_of number numbers = if nat_le number BODY_COLUMNS then map pair_of numbers else []
