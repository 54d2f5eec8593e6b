use Rattle.spec_outcomes.proofs.Counting.{certificate_tells, report_tells, set_tells}
use Rattle.spec_outcomes.proofs.tick_laws.searches_count_ticks.Goals as goal

pub returns-clause-find : goal.returns-clause-find
returns-clause-find c = λ find e text is seconds tick block query so. report_tells find e is seconds tick block text query so

pub returns-clause-certificate : goal.returns-clause-certificate
returns-clause-certificate c = λ find e text is seconds tick block query so. certificate_tells find e is seconds tick block text query so

pub returns-clause-set : goal.returns-clause-set
returns-clause-set c = λ find ref2 relation e text is seconds tick block query so. set_tells find e is seconds tick block ref2 relation query text so
