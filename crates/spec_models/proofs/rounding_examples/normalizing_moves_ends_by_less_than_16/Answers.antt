use Rattle.std.proofs.Common.{refl}
use Rattle.spec_intervals.specs.Interval.{narrow, narrow_by, narrow_shift, first_fit, settled}
use Rattle.spec_models.proofs.rounding_examples.normalizing_moves_ends_by_less_than_16.Goals as goal

pub returns-clause-low : goal.returns-clause-low
unfolding narrow narrow_by narrow_shift first_fit settled
returns-clause-low c = refl

pub returns-clause-high : goal.returns-clause-high
unfolding narrow narrow_by narrow_shift first_fit settled
returns-clause-high c = refl
