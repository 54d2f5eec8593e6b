use Rattle.spec_judged.proofs.Finding.{windows_of_leaves, windows_of_tree}
use Rattle.spec_scalars.specs.Searches.{judged_by}
use Rattle.spec_scalars.proofs.Sound.{is_judged}
use Rattle.spec_scalars.proofs.laws.windows_hold_the_events.Goals as goal

pub returns-clause-of_trees : goal.returns-clause-of_trees
returns-clause-of_trees c = λ s n is valid. windows_of_tree (judged_by s) (is_judged s is) n valid

pub returns-clause-of_leaves : goal.returns-clause-of_leaves
returns-clause-of_leaves c = λ s a b ls is cover are. windows_of_leaves (judged_by s) (is_judged s is) a b ls cover are
