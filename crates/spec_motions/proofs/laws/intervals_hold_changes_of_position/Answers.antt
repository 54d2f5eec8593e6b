use Rattle.spec_motions.proofs.HeldChanges.{Holds-position_step}
use Rattle.spec_motions.proofs.laws.intervals_hold_changes_of_position.Goals as goal

pub returns : goal.returns
returns c = λ s a b is span t from to. Holds-position_step s a b is span t from to
