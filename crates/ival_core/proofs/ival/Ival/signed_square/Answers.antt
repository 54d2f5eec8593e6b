use Rattle.spec_intervals.proofs.Squares.{Holds-signed_square}
use Rattle.ival_core.proofs.ival.Ival.signed_square.Goals as goal

pub returns-clause-holds : goal.returns-clause-holds
returns-clause-holds c r h = rw c.signed_square_of_ival.ensures (Holds-signed_square _ r h)
