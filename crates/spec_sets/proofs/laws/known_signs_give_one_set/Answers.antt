use Rattle.spec_sets.proofs.Exact.{possible_are, sure_are}
use Rattle.spec_sets.proofs.laws.known_signs_give_one_set.Goals as goal

pub returns-clause-sure : goal.returns-clause-sure
returns-clause-sure c = sure_are

pub returns-clause-possible : goal.returns-clause-possible
returns-clause-possible c = possible_are
