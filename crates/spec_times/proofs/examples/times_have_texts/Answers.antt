use Rattle.spec_times.proofs.Worked.{first, j2000, last, leap_day}
use Rattle.spec_times.proofs.examples.times_have_texts.Goals as goal

pub returns-clause-j2000 : goal.returns-clause-j2000
returns-clause-j2000 c = j2000

pub returns-clause-leap_day : goal.returns-clause-leap_day
returns-clause-leap_day c = leap_day

pub returns-clause-first : goal.returns-clause-first
returns-clause-first c = first

pub returns-clause-last : goal.returns-clause-last
returns-clause-last c = last
