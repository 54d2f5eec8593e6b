use Rattle.spec_intervals.proofs.Rules.{Holds-meet}
use Rattle.spec_intervals.proofs.laws.intersections_hold_common_numbers.Goals as goal

pub returns : goal.returns
returns c = Holds-meet
