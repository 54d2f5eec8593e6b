use Rattle.spec_intervals.proofs.Narrow.{narrow_shift-fits, narrow_shift-least}
use Rattle.spec_intervals.proofs.laws.normalizing_shifts_are_least.Goals as goal

pub returns : goal.returns
returns c = record { enough = narrow_shift-fits; none_less = narrow_shift-least }
