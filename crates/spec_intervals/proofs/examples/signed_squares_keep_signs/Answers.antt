use Rattle.std.proofs.Common.{refl}
use Rattle.spec_intervals.specs.Interval.{signed_square, narrow, narrow_by, narrow_shift, first_fit, settled}
use Rattle.spec_intervals.proofs.examples.signed_squares_keep_signs.Goals as goal

pub returns-clause-both_signs : goal.returns-clause-both_signs
unfolding signed_square narrow narrow_by narrow_shift first_fit settled
returns-clause-both_signs c = refl
