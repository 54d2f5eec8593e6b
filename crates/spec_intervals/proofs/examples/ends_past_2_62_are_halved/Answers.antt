use Rattle.std.proofs.Common.{refl}
use Rattle.spec_intervals.specs.Interval.{narrow, narrow_by, narrow_shift, first_fit, settled}
use Rattle.spec_intervals.proofs.examples.ends_past_2_62_are_halved.Goals as goal

pub returns : goal.returns
unfolding narrow narrow_by narrow_shift first_fit settled
returns c = record { at_limit = refl; one_past = refl; both_past = refl; zero_has_exponent_zero = refl }
