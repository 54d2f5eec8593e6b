use Rattle.spec_meanings.proofs.Meetings.{opposition_means, opposition_side_means}
use Rattle.spec_meanings.proofs.laws.oppositions_are_in_opposite_half_planes.Goals as goal

pub returns-clause-meet : goal.returns-clause-meet
returns-clause-meet c = opposition_means

pub returns-clause-side : goal.returns-clause-side
returns-clause-side c = opposition_side_means
