use Rattle.spec_intervals.proofs.Rules.{Holds-join_first, Holds-join_second}
use Rattle.spec_intervals.proofs.laws.hulls_hold_both_intervals.Goals as goal

pub returns : goal.returns
returns c = record { first = Holds-join_first; second = Holds-join_second }
