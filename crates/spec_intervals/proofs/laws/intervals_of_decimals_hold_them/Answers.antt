use Rattle.spec_intervals.proofs.Decimals.{Holds-from_decimal}
use Rattle.spec_intervals.proofs.laws.intervals_of_decimals_hold_them.Goals as goal

pub returns : goal.returns
returns c = Holds-from_decimal
