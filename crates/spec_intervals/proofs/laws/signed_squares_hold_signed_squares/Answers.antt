use Rattle.spec_intervals.proofs.Squares.{Holds-signed_square}
use Rattle.spec_intervals.proofs.laws.signed_squares_hold_signed_squares.Goals as goal

pub returns : goal.returns
returns c = Holds-signed_square
