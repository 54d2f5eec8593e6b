-- The sign of the numbers that an interval holds.
use Rattle.std.specs.Prelude.{pos, if◌then◌else◌}
use lib.Signed.{le_z, lt_z}
use Rattle.spec_intervals.specs.Interval.{Interval}
use Rattle.spec_intervals.specs.declared.signs.Sign.{Sign}
use Rattle.spec_intervals.specs.declared.signs.Sign.TheVariants.{Yes, No, Open}

-- the low end is at least 0, the high end is below 0, or neither
abbrev pub sign_of : Interval → Sign
sign_of t = if le_z (pos 0) t.lo then Yes else (if lt_z t.hi (pos 0) then No else Open)
