use Rattle.spec_numbers.proofs.Order.{le-mul, le-mul_cancel}
use Rattle.spec_numbers.proofs.laws.factors_keep_orders.Goals as goal

pub returns-clause-multiplied : goal.returns-clause-multiplied
returns-clause-multiplied c = le-mul

pub returns-clause-divided : goal.returns-clause-divided
returns-clause-divided c = le-mul_cancel
