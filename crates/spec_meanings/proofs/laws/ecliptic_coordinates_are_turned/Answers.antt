use Rattle.spec_meanings.proofs.Frames.{first_axis, lengths, near_1, turned_axes}
use Rattle.spec_meanings.proofs.laws.ecliptic_coordinates_are_turned.Goals as goal

pub returns-clause-first : goal.returns-clause-first
returns-clause-first c = first_axis

pub returns-clause-turned : goal.returns-clause-turned
returns-clause-turned c = turned_axes

pub returns-clause-lengths : goal.returns-clause-lengths
returns-clause-lengths c = lengths

pub returns-clause-near_1 : goal.returns-clause-near_1
returns-clause-near_1 c = near_1
