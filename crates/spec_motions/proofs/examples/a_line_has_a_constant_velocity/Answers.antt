use Rattle.std.proofs.Common.{refl}
use Rattle.spec_intervals.specs.Interval.{narrow, narrow_by, narrow_shift, first_fit, settled, scale, from_decimal}
use Rattle.spec_chebyshev.specs.Rows.{argument_of, next, q_row, r_row, t_row, u_row}
use Rattle.spec_motions.specs.Enclosures.{position_step_over, velocity_over, velocity_step_over}
use Rattle.spec_motions.proofs.examples.a_line_has_a_constant_velocity.Goals as goal

pub returns : goal.returns
unfolding narrow narrow_by narrow_shift first_fit settled scale from_decimal argument_of next u_row velocity_over q_row t_row position_step_over r_row velocity_step_over
returns c = record { velocity = refl; step = refl; velocity_step = refl; one_time = refl }
