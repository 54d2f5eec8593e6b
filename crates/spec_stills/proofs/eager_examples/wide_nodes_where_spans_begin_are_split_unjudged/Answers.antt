use Rattle.std.proofs.Common.{refl}
use Rattle.spec_stills.proofs.eager_examples.wide_nodes_where_spans_begin_are_split_unjudged.Goals as goal

pub returns-clause-split : goal.returns-clause-split
returns-clause-split c = λ s. refl

pub returns-clause-served : goal.returns-clause-served
returns-clause-served c = λ s. refl

pub returns-clause-narrow : goal.returns-clause-narrow
returns-clause-narrow c = λ s. refl

pub returns-clause-deep : goal.returns-clause-deep
returns-clause-deep c = λ s. refl

pub returns-clause-elsewhere : goal.returns-clause-elsewhere
returns-clause-elsewhere c = λ s. refl
