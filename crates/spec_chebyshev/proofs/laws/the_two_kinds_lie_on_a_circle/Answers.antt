use Rattle.spec_chebyshev.proofs.Polynomials.{circle as on_circle}
use Rattle.spec_chebyshev.proofs.laws.the_two_kinds_lie_on_a_circle.Goals as goal

pub returns : goal.returns
returns c = on_circle
