use Rattle.std.proofs.Common.{refl}
use Rattle.spec_intervals.specs.Interval.{scale, narrow, narrow_by, narrow_shift, first_fit, settled}
use Rattle.spec_intervals.proofs.examples.scaled_ends_are_rounded_outward.Goals as goal

pub returns-clause-above : goal.returns-clause-above
unfolding scale narrow narrow_by narrow_shift first_fit settled
returns-clause-above c = refl

pub returns-clause-below : goal.returns-clause-below
unfolding scale narrow narrow_by narrow_shift first_fit settled
returns-clause-below c = refl
