use Rattle.spec_meanings.proofs.Derivatives.{dot_derivative, square_derivative, squares_derivative, turn_derivative}
use Rattle.spec_meanings.proofs.laws.products_of_moving_places_have_derivatives.Goals as goal

pub returns-clause-distance : goal.returns-clause-distance
returns-clause-distance c = square_derivative

pub returns-clause-longitude : goal.returns-clause-longitude
returns-clause-longitude c = turn_derivative

pub returns-clause-dot : goal.returns-clause-dot
returns-clause-dot c = dot_derivative

pub returns-clause-squares : goal.returns-clause-squares
returns-clause-squares c = squares_derivative
