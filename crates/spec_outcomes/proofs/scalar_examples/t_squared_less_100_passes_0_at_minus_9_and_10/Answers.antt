use Rattle.std.proofs.Common.{refl}
use Rattle.spec_trees.specs.Tree.{leaves, leaves_within}
use Rattle.spec_events.specs.Verdict.{verdict}
use Rattle.spec_scalars.specs.Searches.{verdict_of}
use Rattle.spec_outcomes.proofs.scalar_examples.t_squared_less_100_passes_0_at_minus_9_and_10.Goals as goal

pub returns : goal.returns
unfolding leaves leaves_within verdict verdict_of
returns c = record { found = refl; undecided = refl }
