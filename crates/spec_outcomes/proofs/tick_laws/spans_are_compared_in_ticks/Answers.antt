use Rattle.spec_outcomes.proofs.Counting.{certificate_is_refused, report_is_refused, set_is_refused}
use Rattle.spec_outcomes.proofs.tick_laws.spans_are_compared_in_ticks.Goals as goal

pub returns-clause-find : goal.returns-clause-find
returns-clause-find c = report_is_refused

pub returns-clause-certificate : goal.returns-clause-certificate
returns-clause-certificate c = certificate_is_refused

pub returns-clause-set : goal.returns-clause-set
returns-clause-set c = λ find ref2 relation e out. set_is_refused find e out ref2 relation
