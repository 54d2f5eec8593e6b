use Rattle.std.proofs.Common.{refl}
use Rattle.spec_stills.proofs.still_examples.a_span_serves_nodes_that_halving_makes_narrow.Goals as goal

pub returns-clause-narrow : goal.returns-clause-narrow
returns-clause-narrow c = λ s. refl

pub returns-clause-wide : goal.returns-clause-wide
returns-clause-wide c = λ s. refl

pub returns-clause-deep : goal.returns-clause-deep
returns-clause-deep c = λ s. refl

pub returns-clause-across : goal.returns-clause-across
returns-clause-across c = λ s. refl

pub returns-clause-thirds : goal.returns-clause-thirds
returns-clause-thirds c = λ s. refl
