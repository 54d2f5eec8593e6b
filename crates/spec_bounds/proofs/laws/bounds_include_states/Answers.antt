use Rattle.spec_bounds.proofs.States.{state_included}
use Rattle.spec_bounds.proofs.laws.bounds_include_states.Goals as goal

pub returns : goal.returns
returns _ = λ v l a b c d is fits ca ab bd. state_included v a b c d fits ca ab bd l is
