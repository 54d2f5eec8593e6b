use Rattle.std.proofs.Common.{refl}
use Rattle.spec_intervals.specs.Interval.{from_decimal, sum, sum_up, product, meet, meet_up, narrow, narrow_by, narrow_shift, first_fit, settled}
use Rattle.spec_intervals.specs.Enclosure.{centred, enclosure, constant_of}
use Rattle.spec_expressions.proofs.expression_examples.a_constant_is_its_decimal_at_each_time.Goals as goal

pub returns-clause-enclosed : goal.returns-clause-enclosed
unfolding constant_of enclosure centred from_decimal sum sum_up product meet meet_up narrow narrow_by narrow_shift first_fit settled
returns-clause-enclosed c = refl
