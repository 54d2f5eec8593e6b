use Rattle.std.proofs.Common.{refl}
use Rattle.spec_intervals.specs.Interval.{difference, product, sum, sum_up, narrow, narrow_by, narrow_shift, first_fit, settled}
use Rattle.spec_bodies.specs.Meanings.{factor_interval}
use Rattle.spec_covers.proofs.examples.intervals_at_one_time_follow_the_rules.Goals as goal

pub returns-clause-term : goal.returns-clause-term
unfolding product sum sum_up narrow narrow_by narrow_shift first_fit settled
returns-clause-term c = λ x. refl

pub returns-clause-plus : goal.returns-clause-plus
unfolding sum sum_up narrow narrow_by narrow_shift first_fit settled
returns-clause-plus c = refl

pub returns-clause-less : goal.returns-clause-less
unfolding difference sum sum_up narrow narrow_by narrow_shift first_fit settled
returns-clause-less c = refl

pub returns-clause-times : goal.returns-clause-times
unfolding product factor_interval narrow narrow_by narrow_shift first_fit settled
returns-clause-times c = refl
