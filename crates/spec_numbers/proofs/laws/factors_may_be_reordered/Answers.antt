use Rattle.spec_numbers.proofs.Integers.{mul_comm, exchanged_scales}
use Rattle.spec_numbers.proofs.Naturals.{exchanged_factors}
use Rattle.spec_numbers.proofs.laws.factors_may_be_reordered.Goals as goal

pub returns-clause-commute : goal.returns-clause-commute
returns-clause-commute c = mul_comm

pub returns-clause-scales : goal.returns-clause-scales
returns-clause-scales c = exchanged_scales

pub returns-clause-naturals : goal.returns-clause-naturals
returns-clause-naturals c = exchanged_factors
