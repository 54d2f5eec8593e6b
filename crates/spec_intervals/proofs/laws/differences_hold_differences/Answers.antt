use Rattle.spec_intervals.proofs.Rules.{Holds-difference}
use Rattle.spec_intervals.proofs.laws.differences_hold_differences.Goals as goal

pub returns : goal.returns
returns c = Holds-difference
