use Rattle.std.proofs.Common.{refl}
use Rattle.spec_intervals.specs.Interval.{sum, sum_up, narrow, narrow_by, narrow_shift, first_fit, settled}
use Rattle.spec_intervals.proofs.examples.sums_of_distant_intervals_are_rounded_outward.Goals as goal

pub returns : goal.returns
unfolding sum sum_up narrow narrow_by narrow_shift first_fit settled
returns c = record { near = refl; distance_60 = refl; distance_61 = refl; zero_first = refl }
