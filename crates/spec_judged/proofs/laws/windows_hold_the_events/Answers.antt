use Rattle.spec_judged.proofs.Finding.{windows_of_leaves, windows_of_tree}
use Rattle.spec_judged.proofs.laws.windows_hold_the_events.Goals as goal

pub returns-clause-of_leaves : goal.returns-clause-of_leaves
returns-clause-of_leaves c = λ s a b ls is cover are. windows_of_leaves s is a b ls cover are

pub returns-clause-of_trees : goal.returns-clause-of_trees
returns-clause-of_trees c = λ s n is valid. windows_of_tree s is n valid
