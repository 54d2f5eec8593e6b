use Rattle.std.proofs.Common.{refl}
use Rattle.spec_intervals.specs.Interval.{sum, sum_up, difference, product, meet, meet_up, narrow, narrow_by, narrow_shift, first_fit, settled}
use Rattle.spec_intervals.specs.Enclosure.{centred, enclosure, sum_of, difference_of, product_of}
use Rattle.spec_intervals.proofs.enclosures.rules_enclose_the_time_before_zero.Goals as goal

pub returns : goal.returns
unfolding sum_of enclosure centred sum sum_up product meet meet_up narrow narrow_by narrow_shift first_fit settled difference_of difference product_of
returns c = record { sum = refl; difference = refl; product = refl; single_time = refl }
