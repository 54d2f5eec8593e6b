use Rattle.std.proofs.Common.{refl}
use Rattle.spec_trees.specs.Tree.{leaves, leaves_within}
use Rattle.spec_events.specs.Verdict.{verdict}
use Rattle.spec_scalars.specs.Searches.{verdict_of}
use Rattle.spec_outcomes.specs.Scalars.{searched_scalar}
use Rattle.spec_outcomes.proofs.scalar_examples.spans_without_times_are_refused.Goals as goal

pub returns-clause-reported : goal.returns-clause-reported
unfolding leaves leaves_within verdict verdict_of searched_scalar
returns-clause-reported c = refl

pub returns-clause-refused : goal.returns-clause-refused
returns-clause-refused c = refl
