-- The calendar time of a time is the one that shows it, and its text is read as the time.
use Rattle.std.proofs.Common.{◌≡◌, ◌++◌, ℕ, ◌+◌, ◌*◌, ◌/◌, ◌%◌, ◌<◌, ◌≤◌, inl, inr, int_le, int_lt, true, false, Ok, refl, sym, ◌∙◌, arith, ℤ, pos, negsuc, neg_ℤ, ◌+ℤ◌, ◌*ℤ◌, ◌≤ℤ◌, unsigned_abs}
use Rattle.std.proofs.lemmas.Int.{ints}
use Rattle.std.proofs.lemmas.Bool.{cases_Bool, and_from, lt-ltb}
use Rattle.std.proofs.lemmas.Bool.Decides.{nat_tests}
use Rattle.std.specs.Int.{int_div_euclid, int_rem_euclid}
use Rattle.jiff_core.specs.Calendar.{days_from_civil, days_in_month, IsCivilDate, IsEpochDay}
use Rattle.jiff_core.proofs.SignedLemmas.{signed_arith}
use Rattle.spec_ephemeris.specs.declared.limits.TheConstants.{FIRST_TIME, LAST_TIME}
use Rattle.spec_times.specs.Calendar.{year_of, month_of, day_of_month, day_number, clock, midnight, calendar_at, calendar_time, is_between, is_date, is_time_of_day, is_calendar_time, time_of_calendar, time_text, date_text, clock_text}
use Rattle.spec_times.specs.declared.calendar.CalendarTime.{CalendarTime}
use Rattle.spec_times.specs.TimeWords.{IsTime, time_of, within_limits}
use Rattle.spec_times.proofs.Dates.{date_of_day, one_date}
use Rattle.spec_times.proofs.Texts.{time_of_text, written}

pub clock_is : (z : ℤ) → unsigned_abs (int_rem_euclid z (pos 86400)) < 86400
clock_is (pos n) = omega arith
clock_is (negsuc n) = omega arith

pub parts_of : (z : ℤ) → int_div_euclid z (pos 86400) *ℤ pos 86400 +ℤ pos (unsigned_abs (int_rem_euclid z (pos 86400))) ≡ z
parts_of (pos n) = omega (arith, signed_arith)
parts_of (negsuc n) = omega (arith, signed_arith)

pub day_is : (time : ℤ) → IsTime time → IsEpochDay (day_number time)
day_is time is = omega (arith, signed_arith, is.low, is.high)

-- a day and what has passed of it are the time
pub whole_is : (time : ℤ) → midnight (day_number time) +ℤ pos (clock time) ≡ time
whole_is time = omega (arith, signed_arith, parts_of (time +ℤ pos 43200))

between : (low high n : ℕ) → low ≤ n → n ≤ high → is_between low high n ≡ true
between low high n l h = grind (arith, nat_tests)

date_holds : (c : CalendarTime) → IsCivilDate c.year c.month c.day → is_date c ≡ true
date_holds c h = and_from _ _ (between 1 12 c.month h.1.0 h.1.1) (between 1 (days_in_month c.year c.month) c.day h.2.0 h.2.1)

clock_holds : (day : ℤ) (s : ℕ) → s < 86400 → is_time_of_day (calendar_at day s) ≡ true
clock_holds day s h = and_from _ _ (lt-ltb (s / 3600) 24 (omega arith)) (and_from _ _ (lt-ltb (s / 60 % 60) 60 (omega arith)) (lt-ltb (s % 60) 60 (omega arith)))

seconds_are : (s : ℕ) → s / 3600 * 3600 + s / 60 % 60 * 60 + s % 60 ≡ s
seconds_are s = omega arith

pub calendar_holds : (time : ℤ) → IsTime time → is_calendar_time (calendar_time time) ≡ true
calendar_holds time is =
    and_from _ _ (date_holds (calendar_time time) (date_of_day (day_number time) (day_is time is)).civil) (clock_holds (day_number time) (clock time) (clock_is (time +ℤ pos 43200)))

pub calendar_is : (time : ℤ) → IsTime time → time_of_calendar (calendar_time time) ≡ time
calendar_is time is =
    let number = (date_of_day (day_number time) (day_is time is)).number in
    (λ i. midnight (number i) +ℤ pos (seconds_are (clock time) i)) ∙ whole_is time

lt_false : (a b : ℤ) → b ≤ℤ a → int_lt a b ≡ false
lt_false a b h = elim (cases_Bool (int_lt a b)) [ inl t ↦ absurd (omega (arith, signed_arith)) | inr f ↦ f ]

pub time_within_limits : (time : ℤ) → IsTime time → within_limits time ≡ Ok time
time_within_limits time is =
    let late : true ≡ int_le FIRST_TIME time = omega (arith, ints, is.low) in
    let early : true ≡ int_le time LAST_TIME = omega (arith, ints, is.high) in
    rw (sym late, sym early) refl

pub text_is_read : (time : ℤ) → IsTime time → time_of (time_text time) ≡ Ok time
unfolding time_text
text_is_read time is =
    let civil = (date_of_day (day_number time) (day_is time is)).civil in
    let c = calendar_time time in
    let not_early : int_lt c.year (neg_ℤ (pos 9999)) ≡ false = lt_false c.year (neg_ℤ (pos 9999)) civil.0.0 in
    let not_late : int_lt (pos 9999) c.year ≡ false = lt_false (pos 9999) c.year civil.0.1 in
    time_of_text c (calendar_holds time is) (written c.year civil.0) ∙ rw (not_early, not_late, calendar_is time is) (time_within_limits time is)

-- the date of this day is what calendar and clock show
pub calendar_of_date : (time : ℤ) (y : ℤ) (m d : ℕ) → IsTime time → IsCivilDate y m d → days_from_civil y m d ≡ day_number time → (year_of (day_number time) ≡ y) × (month_of (day_number time) ≡ m) × (day_of_month (day_number time) ≡ d)
calendar_of_date time y m d is h e =
    let found = date_of_day (day_number time) (day_is time is) in
    one_date (year_of (day_number time)) (month_of (day_number time)) (day_of_month (day_number time)) y m d found.civil h (found.number ∙ sym e)

pub text_of_date : (time : ℤ) (y : ℤ) (m d : ℕ) → IsTime time → IsCivilDate y m d → days_from_civil y m d ≡ day_number time → time_text time ≡ date_text y m d ++ clock_text (clock time)
unfolding time_text
text_of_date time y m d is h e =
    let parts = calendar_of_date time y m d is h e in
    λ i. date_text (parts.0 i) (parts.1 i) (parts.2 i) ++ clock_text (clock time)
