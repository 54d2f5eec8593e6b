use Rattle.spec_ephemeris.proofs.Ticks.{same_position}
use Rattle.spec_ephemeris.proofs.laws.ticks_keep_positions.Goals as goal

pub returns : goal.returns
returns c = same_position
