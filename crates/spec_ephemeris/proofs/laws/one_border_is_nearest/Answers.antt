use Rattle.spec_ephemeris.specs.Ephemeris.{IsBorderIn}
use Rattle.spec_ephemeris.proofs.Granules.{nearest_once}
use Rattle.spec_ephemeris.proofs.laws.one_border_is_nearest.Goals as goal

pub returns : goal.returns
returns c = λ e columns a b x y one other. nearest_once (IsBorderIn e columns a b) a b x y one other
