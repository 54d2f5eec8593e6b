use Rattle.spec_stills.proofs.Halvings.{served_is_clear}
use Rattle.spec_stills.proofs.still_laws.served_nodes_have_clear_leaves.Goals as goal

pub returns-clause-clear : goal.returns-clause-clear
returns-clause-clear c = λ s x n is still valid e. (served_is_clear s x n is still valid e).clear

pub returns-clause-few : goal.returns-clause-few
returns-clause-few c = λ s x n is still valid e. (served_is_clear s x n is still valid e).few
