use Rattle.spec_chebyshev.proofs.Polynomials.{t_one_second, u_one_second}
use Rattle.spec_chebyshev.proofs.laws.one_second_adds_two_divided_differences.Goals as goal

pub returns : goal.returns
returns c = record { first_kind = t_one_second; second_kind = u_one_second }
