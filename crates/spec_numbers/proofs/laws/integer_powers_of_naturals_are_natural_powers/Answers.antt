use Rattle.spec_numbers.proofs.Naturals.{power-pos}
use Rattle.spec_numbers.proofs.laws.integer_powers_of_naturals_are_natural_powers.Goals as goal

pub returns : goal.returns
returns c = power-pos
