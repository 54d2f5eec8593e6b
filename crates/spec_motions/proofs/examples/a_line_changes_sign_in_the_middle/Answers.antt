use Rattle.std.proofs.Common.{refl}
use Rattle.spec_intervals.specs.Interval.{narrow, narrow_by, narrow_shift, first_fit, settled, from_decimal}
use Rattle.spec_chebyshev.specs.Rows.{argument_of, next, t_row}
use Rattle.spec_motions.specs.Enclosures.{position_over}
use Rattle.spec_motions.proofs.examples.a_line_changes_sign_in_the_middle.Goals as goal

pub returns : goal.returns
unfolding narrow narrow_by narrow_shift first_fit settled from_decimal argument_of next t_row position_over
returns c = record { in_the_middle = refl; before = refl; around = refl }
