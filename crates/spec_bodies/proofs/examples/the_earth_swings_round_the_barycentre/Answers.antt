use Rattle.std.proofs.Common.{refl}
use Rattle.spec_intervals.specs.Interval.{first_fit, narrow_shift, settled, narrow_by, narrow, product, sum_up, sum, difference, meet_up, meet, scale, from_decimal}
use Rattle.spec_chebyshev.specs.Rows.{next, t_row, u_row, q_row, r_row, argument_of}
use Rattle.spec_motions.specs.Enclosures.{position_over, position_step_over, velocity_over, velocity_step_over}
use Rattle.spec_intervals.specs.Enclosure.{enclosure, centred, constant_of, sum_of, difference_of, product_of}
use Rattle.spec_bodies.specs.Meanings.{factor_interval}
use Rattle.spec_bodies.proofs.examples.the_earth_swings_round_the_barycentre.Goals as goal

pub returns-clause-before : goal.returns-clause-before
unfolding first_fit narrow_shift settled narrow_by narrow product sum_up sum difference meet_up meet scale from_decimal next t_row u_row q_row r_row argument_of position_over position_step_over velocity_over velocity_step_over enclosure centred constant_of sum_of difference_of product_of factor_interval
returns-clause-before c = refl

pub returns-clause-after : goal.returns-clause-after
unfolding first_fit narrow_shift settled narrow_by narrow product sum_up sum difference meet_up meet scale from_decimal next t_row u_row q_row r_row argument_of position_over position_step_over velocity_over velocity_step_over enclosure centred constant_of sum_of difference_of product_of factor_interval
returns-clause-after c = refl
