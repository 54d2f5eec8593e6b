use Rattle.std.proofs.Common.{refl}
use Rattle.spec_intervals.specs.Interval.{join, join_up, meet, meet_up, narrow, narrow_by, narrow_shift, first_fit, settled}
use Rattle.spec_intervals.proofs.examples.hulls_and_intersections_are_rounded_outward.Goals as goal

pub returns : goal.returns
unfolding join join_up meet meet_up narrow narrow_by narrow_shift first_fit settled
returns c = record { join = refl; join_at_61 = refl; meet = refl; meet_at_one_number = refl }
