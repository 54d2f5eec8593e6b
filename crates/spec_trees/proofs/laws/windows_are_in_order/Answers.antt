use Rattle.spec_trees.proofs.Placing.{windows_within, windows_in_order}
use Rattle.spec_trees.proofs.laws.windows_are_in_order.Goals as goal

pub returns-clause-within : goal.returns-clause-within
returns-clause-within c = λ a b ls h. windows_within a b ls h

pub returns-clause-in_order : goal.returns-clause-in_order
returns-clause-in_order c = λ a b ls h. windows_in_order a b ls h
