use Rattle.spec_intervals.proofs.Centred.{Holds-centred}
use Rattle.spec_intervals.proofs.Enclosed.{IsEnclosure-parts}
use Rattle.spec_intervals.proofs.enclosures.parts_make_enclosures.Goals as goal

pub returns : goal.returns
returns c = record { centred = Holds-centred; enclosure = IsEnclosure-parts }
