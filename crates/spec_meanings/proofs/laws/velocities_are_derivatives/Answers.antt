use Rattle.spec_meanings.proofs.Derivatives.{velocity_is_derivative, one_denominator}
use Rattle.spec_meanings.proofs.Rates.{coordinate_rate}
use Rattle.spec_meanings.proofs.laws.velocities_are_derivatives.Goals as goal

pub returns-clause-derivative : goal.returns-clause-derivative
returns-clause-derivative c = velocity_is_derivative

pub returns-clause-denominator : goal.returns-clause-denominator
returns-clause-denominator c = one_denominator

pub returns-clause-coordinates : goal.returns-clause-coordinates
returns-clause-coordinates c = coordinate_rate
