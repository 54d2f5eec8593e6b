use Rattle.spec_meanings.proofs.Derivatives.{one_derivative, polynomial_slope}
use Rattle.spec_meanings.proofs.laws.derivatives_are_unique.Goals as goal

pub returns-clause-one : goal.returns-clause-one
returns-clause-one c = one_derivative

pub returns-clause-chebyshev : goal.returns-clause-chebyshev
returns-clause-chebyshev c = polynomial_slope
