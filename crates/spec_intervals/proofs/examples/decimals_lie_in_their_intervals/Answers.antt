use Rattle.std.proofs.Common.{refl}
use Rattle.spec_intervals.specs.Interval.{from_decimal}
use Rattle.spec_intervals.proofs.examples.decimals_lie_in_their_intervals.Goals as goal

pub returns : goal.returns
unfolding from_decimal
returns c = record { minus_tenth = refl; whole = refl; zero = refl; half = refl }
