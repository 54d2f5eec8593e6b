use Rattle.std.proofs.Common.{refl}
use Rattle.spec_ephemeris.specs.Borders.{nearest_of_column, nearest_border}
use Rattle.spec_ephemeris.proofs.examples.two_blocks_have_one_border.Goals as goal

pub returns : goal.returns
unfolding nearest_of_column nearest_border
returns c = record { upto = refl; after = refl; end_of_all = refl }
