use Rattle.spec_covers.proofs.Points.{point_told}
use Rattle.spec_covers.proofs.laws.points.Goals as goal

pub returns : goal.returns
returns c = λ v x b d t fits after before has. point_told v b d t fits after before x has
