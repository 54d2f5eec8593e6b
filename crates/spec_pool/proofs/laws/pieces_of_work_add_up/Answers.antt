use Rattle.spec_pool.proofs.Balancing.{no_work, one_after_another}
use Rattle.spec_pool.proofs.laws.pieces_of_work_add_up.Goals as goal

pub returns-clause-nothing : goal.returns-clause-nothing
returns-clause-nothing c = λ t a. no_work t a

pub returns-clause-both : goal.returns-clause-both
returns-clause-both c = λ t x y z first later. one_after_another t x y z first later
