use Rattle.spec_intervals.proofs.Sums.{Holds-sum}
use Rattle.spec_intervals.proofs.laws.sums_hold_sums.Goals as goal

pub returns : goal.returns
returns c = Holds-sum
