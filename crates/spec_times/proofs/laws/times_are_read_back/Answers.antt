use Rattle.spec_times.proofs.Times.{calendar_holds, calendar_is, text_is_read}
use Rattle.spec_times.proofs.laws.times_are_read_back.Goals as goal

pub returns-clause-calendar : goal.returns-clause-calendar
returns-clause-calendar c = calendar_holds

pub returns-clause-shown : goal.returns-clause-shown
returns-clause-shown c = calendar_is

pub returns-clause-read : goal.returns-clause-read
returns-clause-read c = text_is_read
