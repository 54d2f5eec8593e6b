use Rattle.spec_meanings.proofs.Meetings.{conjunction_means, side_means}
use Rattle.spec_meanings.proofs.laws.conjunctions_are_in_one_half_plane.Goals as goal

pub returns-clause-meet : goal.returns-clause-meet
returns-clause-meet c = conjunction_means

pub returns-clause-side : goal.returns-clause-side
returns-clause-side c = side_means
