use Rattle.spec_numbers.proofs.Floor.{floor_div-le, floor_div-lt, ceil_div-ge, ceil_div-lt}
use Rattle.spec_numbers.proofs.laws.quotients_are_rounded_down_or_up.Goals as goal

pub returns-clause-below : goal.returns-clause-below
returns-clause-below c = floor_div-le

pub returns-clause-next : goal.returns-clause-next
returns-clause-next c = floor_div-lt

pub returns-clause-above : goal.returns-clause-above
returns-clause-above c = ceil_div-ge

pub returns-clause-before : goal.returns-clause-before
returns-clause-before c = ceil_div-lt
