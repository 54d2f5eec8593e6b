use Rattle.std.proofs.Common.{refl}
use Rattle.spec_intervals.specs.Interval.{from_decimal}
use Rattle.spec_chebyshev.specs.Rows.{argument_of, next, t_row, u_row}
use Rattle.spec_covers.proofs.examples.sums_of_a_series_are_exact_at_argument_0.Goals as goal

pub returns-clause-position : goal.returns-clause-position
unfolding from_decimal argument_of next t_row
returns-clause-position c = refl

pub returns-clause-velocity : goal.returns-clause-velocity
unfolding from_decimal argument_of next u_row
returns-clause-velocity c = refl
