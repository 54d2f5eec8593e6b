use Rattle.spec_motions.proofs.HeldSpans.{Holds-position}
use Rattle.spec_motions.proofs.laws.intervals_hold_positions.Goals as goal

pub returns : goal.returns
returns c = λ s a b is span t from to. Holds-position s a b t is span from to
