use Rattle.spec_meanings.proofs.Distances.{coordinate_means, radius_means}
use Rattle.spec_meanings.proofs.laws.coordinates_and_distances_are_compared.Goals as goal

pub returns-clause-coordinate : goal.returns-clause-coordinate
returns-clause-coordinate c = coordinate_means

pub returns-clause-radius : goal.returns-clause-radius
returns-clause-radius c = radius_means
