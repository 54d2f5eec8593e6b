use Rattle.std.proofs.Common.{refl}
use Rattle.spec_chebyshev.proofs.laws.divided_differences_obey_a_recurrence.Goals as goal

pub returns : goal.returns
returns c = record { first_kind = λ a u l k. refl; second_kind = λ a u l k. refl }
