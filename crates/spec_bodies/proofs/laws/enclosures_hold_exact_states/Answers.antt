use Rattle.spec_bodies.proofs.Held.{states_held}
use Rattle.spec_bodies.proofs.laws.enclosures_hold_exact_states.Goals as goal

pub returns : goal.returns
returns c = λ v leaf a b is fits. states_held v a b fits leaf is
