use Rattle.spec_intervals.proofs.Holding.{Holds-narrowed}
use Rattle.spec_intervals.proofs.Narrow.{IsIval-narrow}
use Rattle.spec_intervals.proofs.laws.normalizing_keeps_numbers.Goals as goal

pub returns : goal.returns
returns c = record { holds = Holds-narrowed; is_ival = IsIval-narrow }
