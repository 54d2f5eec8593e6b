use Rattle.spec_bodies.proofs.Held.{states_within}
use Rattle.spec_bodies.proofs.laws.exponents_are_small.Goals as goal

pub returns : goal.returns
returns c = λ v leaf a b is fits. states_within v a b fits leaf is
