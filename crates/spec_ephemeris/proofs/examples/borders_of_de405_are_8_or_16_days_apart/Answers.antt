use Rattle.std.proofs.Common.{refl}
use Rattle.spec_ephemeris.specs.Borders.{nearest_of_column, nearest_border}
use Rattle.spec_ephemeris.proofs.examples.borders_of_de405_are_8_or_16_days_apart.Goals as goal

pub returns : goal.returns
unfolding nearest_of_column nearest_border
returns c = record { smaller_of_two = refl; nearer = refl; of_one = refl; of_both = refl; of_none = refl }
