use Rattle.std.proofs.Common.{refl}
use Rattle.spec_chebyshev.specs.Rows.{next, t_row, u_row}
use Rattle.spec_chebyshev.proofs.examples.entries_are_cut_to_their_sizes.Goals as goal

pub returns : goal.returns
unfolding next t_row u_row
returns c = record { t_2 = refl; u_2 = refl }
