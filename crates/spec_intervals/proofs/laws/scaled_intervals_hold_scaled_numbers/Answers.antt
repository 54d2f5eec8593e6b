use Rattle.spec_intervals.proofs.Rules.{Holds-scale}
use Rattle.spec_intervals.proofs.laws.scaled_intervals_hold_scaled_numbers.Goals as goal

pub returns : goal.returns
returns c = Holds-scale
