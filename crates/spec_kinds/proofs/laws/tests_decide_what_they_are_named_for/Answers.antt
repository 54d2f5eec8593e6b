use Rattle.spec_kinds.proofs.Tests.{body_there, there_body}
use Rattle.spec_kinds.proofs.laws.tests_decide_what_they_are_named_for.Goals as goal

pub returns-clause-body : goal.returns-clause-body
returns-clause-body c = λ e body. (body_there e body, there_body e body)
