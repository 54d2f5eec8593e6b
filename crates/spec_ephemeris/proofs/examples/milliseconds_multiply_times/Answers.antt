use Rattle.std.proofs.Common.{refl}
use Rattle.spec_ephemeris.specs.Borders.{nearest_of_column, nearest_border}
use Rattle.spec_ephemeris.proofs.examples.milliseconds_multiply_times.Goals as goal

pub returns-clause-border : goal.returns-clause-border
unfolding nearest_of_column nearest_border
returns-clause-border c = refl
