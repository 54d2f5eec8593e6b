use Rattle.spec_steps.proofs.Within.{listed-within}
use Rattle.spec_steps.proofs.laws.listed_bounds_are_within_limits.Goals as goal

pub returns : goal.returns
returns c = λ v t a b is fits. listed-within v a b fits t is
