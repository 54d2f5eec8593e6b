use Rattle.std.proofs.Common.{refl}
use Rattle.spec_intervals.specs.Interval.{from_decimal}
use Rattle.spec_ephemeris.proofs.examples.coefficients_are_rounded_both_ways.Goals as goal

pub returns : goal.returns
unfolding from_decimal
returns c = record { above_zero = refl; below_zero = refl; whole = refl; sun = refl; nutations = refl }
