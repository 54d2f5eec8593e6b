use Rattle.spec_motions.proofs.Tight.{IsTight-position}
use Rattle.spec_motions.proofs.laws.positions_are_tight.Goals as goal

pub returns : goal.returns
returns c = IsTight-position
