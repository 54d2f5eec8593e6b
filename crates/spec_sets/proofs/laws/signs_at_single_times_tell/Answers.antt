use Rattle.spec_sets.proofs.Points.{point_tells}
use Rattle.spec_sets.proofs.laws.signs_at_single_times_tell.Goals as goal

pub returns : goal.returns
returns c = point_tells
