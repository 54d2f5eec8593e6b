-- A second that calendar and clock show has a text.
use Rattle.std.proofs.Common.{◌≡◌, ℤ, Option, Result, Ok, Err, sym}
use Rattle.std.specs.Prelude.{IfOk}
use Rattle.spec_times.specs.declared.calendar.CalendarTime.{CalendarTime}
use Rattle.spec_times.specs.declared.faults.TimeFault.{TimeFault}
use Rattle.spec_times.specs.TimeWords.{IsTime, time_shown}
use Rattle.spec_times.proofs.Ticks.{shown_is_within}

pub in_time : (o : Option CalendarTime) (r : Result ℤ TimeFault) → r ≡ time_shown o → IfOk r IsTime
in_time o (Ok time) is = shown_is_within o time (sym is)
in_time o (Err fault) is = tt
