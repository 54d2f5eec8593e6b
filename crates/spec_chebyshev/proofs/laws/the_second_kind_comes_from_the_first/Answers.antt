use Rattle.spec_chebyshev.proofs.Polynomials.{mixed}
use Rattle.spec_chebyshev.proofs.laws.the_second_kind_comes_from_the_first.Goals as goal

pub returns : goal.returns
returns c = λ u l k. (mixed u l k).1
