use Rattle.std.proofs.Common.{subst, sym}
use Rattle.spec_ephemeris.specs.Ephemeris.{IsBorderIn, IsNearestBorder}
use Rattle.spec_ephemeris.specs.Borders.{nearest_border}
use Rattle.spec_ephemeris.proofs.Granules.{nearest_once}
use Rattle.spec_ephemeris.proofs.NearestBorders.{nearest_of_all}
use Rattle.spec_ephemeris.proofs.laws.nearest_border_computes_the_nearest_border.Goals as goal

pub returns : goal.returns
returns c = λ e columns a b x checked there. (
  λ nearest. nearest_once (IsBorderIn e columns a b) a b x (nearest_border e columns a b) nearest (nearest_of_all e columns a b checked there),
  λ same. subst (IsNearestBorder e columns a b) (sym same) (nearest_of_all e columns a b checked there),
)
