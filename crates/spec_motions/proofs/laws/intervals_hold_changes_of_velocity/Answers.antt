use Rattle.spec_motions.proofs.HeldChanges.{Holds-velocity_step}
use Rattle.spec_motions.proofs.laws.intervals_hold_changes_of_velocity.Goals as goal

pub returns : goal.returns
returns c = λ s a b is span t from to. Holds-velocity_step s a b is span t from to
