use Rattle.spec_bodies.proofs.Held.{times_span, fractions_of_states}
use Rattle.spec_bodies.proofs.laws.exact_values_are_numbers.Goals as goal

pub returns : goal.returns
returns c = record {
  times = times_span;
  numbers = λ v leaf a b is fits. fractions_of_states v a b fits leaf is;
}
