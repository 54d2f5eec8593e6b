use Rattle.std.proofs.Common.{to_z-of_z}
use Rattle.spec_times.specs.Calendar.{clock_text, date_text}
use Rattle.spec_times.proofs.Times.{text_of_date}
use Rattle.window_text.proofs.Appended.{two_pieces}
use Rattle.window_text.proofs.printing.add_time.Goals as goal

pub returns : goal.returns
returns c =
    let fits = c.ranges.time in
    let day = simp to_z-of_z at c.date_of_time.ensures in
    let seconds = simp to_z-of_z at c.seconds_after_midnight.ensures.value in
    let date = c.date_of_time.result in
    let is = text_of_date c.args.time date.year date.month date.day c.requires (date.year_in, date.month_in, date.day_in) day in
    rw (is, ← seconds) (two_pieces c.add_time_of_day.result _ _ _ (date_text date.year date.month date.day) (clock_text c.seconds_after_midnight.result) c.in_ok-add_date.ensures c.add_time_of_day.ensures)
