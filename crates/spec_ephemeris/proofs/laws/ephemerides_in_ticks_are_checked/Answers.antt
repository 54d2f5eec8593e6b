use Rattle.spec_ephemeris.proofs.Ticks.{are_checked}
use Rattle.spec_ephemeris.proofs.laws.ephemerides_in_ticks_are_checked.Goals as goal

pub returns : goal.returns
returns c = are_checked
