use Rattle.spec_motions.proofs.HeldChanges.{Holds-velocity}
use Rattle.spec_motions.proofs.laws.intervals_hold_velocities.Goals as goal

pub returns : goal.returns
returns c = λ s a b is span t from to. Holds-velocity s a b is span t from to
