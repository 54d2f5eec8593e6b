use Rattle.std.proofs.Common.{[], arith, refl}
use Rattle.spec_steps.proofs.Terms.{as_many, step_of}
use Rattle.spec_steps.proofs.step_laws.steps_stand_for_terms.Goals as goal

pub returns-clause-count : goal.returns-clause-count
returns-clause-count c = as_many

pub returns-clause-each : goal.returns-clause-each
returns-clause-each c = λ ss are k below d. step_of ss [] 0 refl are k k (omega arith) below d
