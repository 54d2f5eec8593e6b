use Rattle.std.proofs.Common.{refl}
use Rattle.spec_sets.specs.Spans.{runs}
use Rattle.spec_sets.proofs.examples.four_leaves_make_sure_and_possible_times.Goals as goal

pub returns : goal.returns
unfolding runs
returns c = record { sure = refl; possible = refl }
