use Rattle.spec_bounds.proofs.Within.{state-within, formula-within}
use Rattle.spec_bounds.proofs.laws.bounds_are_within_limits.Goals as goal

pub returns : goal.returns
returns c = record {
  states = λ v l a b is fits. state-within v a b fits l is;
  formulas = λ v e a b is fits. formula-within v e a b is fits;
}
