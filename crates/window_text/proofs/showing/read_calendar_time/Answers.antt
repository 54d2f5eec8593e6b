use Rattle.std.proofs.Common.{Some}
use Rattle.window_text.proofs.Seconds.{in_time}
use Rattle.window_text.proofs.showing.read_calendar_time.Goals as goal

pub returns-in-Some-clause-bound : goal.returns-in-Some-clause-bound
returns-in-Some-clause-bound c = in_time (Some c.in-Some.shown) _ c.time_of_fields.ensures
