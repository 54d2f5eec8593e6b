use Rattle.spec_chebyshev.proofs.Polynomials.{t_divided, u_divided}
use Rattle.spec_chebyshev.proofs.laws.divided_differences_divide_differences.Goals as goal

pub returns : goal.returns
returns c = record { first_kind = t_divided; second_kind = u_divided }
