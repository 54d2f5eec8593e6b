use Rattle.std.proofs.Common.{refl}
use Rattle.spec_chebyshev.proofs.laws.polynomials_obey_the_recurrence.Goals as goal

pub returns : goal.returns
returns c = record { first_kind = λ u l k. refl; second_kind = λ u l k. refl }
