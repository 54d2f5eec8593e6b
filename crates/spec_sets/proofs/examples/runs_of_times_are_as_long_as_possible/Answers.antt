use Rattle.std.proofs.Common.{refl}
use Rattle.spec_sets.specs.Spans.{runs}
use Rattle.spec_sets.proofs.examples.runs_of_times_are_as_long_as_possible.Goals as goal

pub returns-clause-two : goal.returns-clause-two
unfolding runs
returns-clause-two c = refl

pub returns-clause-none : goal.returns-clause-none
unfolding runs
returns-clause-none c = refl

pub returns-clause-all : goal.returns-clause-all
unfolding runs
returns-clause-all c = refl
