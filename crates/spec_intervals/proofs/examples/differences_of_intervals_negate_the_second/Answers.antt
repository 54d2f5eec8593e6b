use Rattle.std.proofs.Common.{refl}
use Rattle.spec_intervals.specs.Interval.{difference, sum, sum_up, narrow, narrow_by, narrow_shift, first_fit, settled}
use Rattle.spec_intervals.proofs.examples.differences_of_intervals_negate_the_second.Goals as goal

pub returns : goal.returns
unfolding difference sum sum_up narrow narrow_by narrow_shift first_fit settled
returns c = record { near = refl; from_zero = refl; zero_off = refl }
