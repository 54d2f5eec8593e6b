use Rattle.std.proofs.Common.{refl}
use Rattle.spec_stills.proofs.eager_examples.spans_begin_in_nodes_that_hold_their_start.Goals as goal

pub returns-clause-first : goal.returns-clause-first
returns-clause-first c = refl

pub returns-clause-inside : goal.returns-clause-inside
returns-clause-inside c = refl

pub returns-clause-last : goal.returns-clause-last
returns-clause-last c = refl

pub returns-clause-after : goal.returns-clause-after
returns-clause-after c = refl
