use Rattle.std.proofs.Common.{refl}
use Rattle.spec_stills.proofs.served_examples.served_nodes_are_clear_and_others_judged.Goals as goal

pub returns-clause-served : goal.returns-clause-served
returns-clause-served c = λ s. refl

pub returns-clause-judged : goal.returns-clause-judged
returns-clause-judged c = λ s. refl
