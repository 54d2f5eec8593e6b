use Rattle.std.proofs.Common.{◌≡◌, ◌∙◌, ap, unsigned_abs, arith}
use Rattle.std.proofs.lemmas.Int.{ints}
use Rattle.jiff_core.specs.Calendar.{days_from_civil}
use Rattle.jiff_core.proofs.CalendarLemmas.{days_in_month_bounds}
use Rattle.window_text.proofs.Dates.{byte_back, civil_date, date_exists, day_fits, day_is, year_back, year_fits}
use Rattle.window_text.proofs.showing.day_number.Goals as goal

pub unwrap-date-requires : goal.unwrap-date-requires
unwrap-date-requires c =
    let s = c.args.shown in
    let date = civil_date s c.requires.shown in
    let month = byte_back s.month (omega (arith, date.1)) in
    let day = byte_back s.day (omega (arith, date.3, days_in_month_bounds s.year s.month)) in
    c.new.ensures.succeeds.1 (date_exists s _ _ _ (year_back s.year c.requires.year) month day c.requires.year c.requires.shown)

pub overflow_cast-shown : goal.overflow_cast-shown
overflow_cast-shown c = year_fits c.args.shown.year c.requires.year

pub overflow_cast-shown-2 : goal.overflow_cast-shown-2
overflow_cast-shown-2 c = let date = civil_date c.args.shown c.requires.shown in omega (arith, ints, date.1)

pub overflow_cast-shown-3 : goal.overflow_cast-shown-3
overflow_cast-shown-3 c =
    let s = c.args.shown in
    let date = civil_date s c.requires.shown in
    omega (arith, ints, date.3, days_in_month_bounds s.year s.month)

pub overflow_cast-result : goal.overflow_cast-result
overflow_cast-result c = day_fits _ c.to_unix_epoch_day.ensures.bound

pub returns-clause-value : goal.returns-clause-value
returns-clause-value c =
    let s = c.args.shown in
    let date = civil_date s c.requires.shown in
    let known = c.unwrap-date.result in
    let parts = rw c.unwrap-date.ensures at c.new.ensures.value in
    let year : known.year ≡ s.year = parts.0 ∙ year_back s.year c.requires.year in
    let month : known.month ≡ s.month = ap unsigned_abs (parts.1 ∙ byte_back s.month (omega (arith, date.1))) in
    let day : known.day ≡ s.day = ap unsigned_abs (parts.2 ∙ byte_back s.day (omega (arith, date.3, days_in_month_bounds s.year s.month))) in
    day_is _ c.to_unix_epoch_day.ensures.bound ∙ (c.to_unix_epoch_day.ensures.value ∙ λ i. days_from_civil (year i) (month i) (day i))

pub returns-clause-bound : goal.returns-clause-bound
returns-clause-bound c = rw (day_is _ c.to_unix_epoch_day.ensures.bound) c.to_unix_epoch_day.ensures.bound
