use Rattle.spec_stills.proofs.Weighing.{all_eager_weighed, all_served_weighed}
use Rattle.spec_stills.proofs.weight_laws.leaves_weigh_enough.Goals as goal

pub returns-clause-eager : goal.returns-clause-eager
returns-clause-eager c = λ s xs ls is stills are. all_eager_weighed s xs is stills ls are

pub returns-clause-served : goal.returns-clause-served
returns-clause-served c = λ s xs ls is stills are. all_served_weighed s xs is stills ls are
