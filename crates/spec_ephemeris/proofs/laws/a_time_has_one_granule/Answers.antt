use Rattle.spec_ephemeris.proofs.Granules.{one_granule}
use Rattle.spec_ephemeris.proofs.laws.a_time_has_one_granule.Goals as goal

pub returns : goal.returns
returns c = one_granule
