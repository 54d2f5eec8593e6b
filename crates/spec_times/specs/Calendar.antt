-- What a time is on the calendar: the proleptic Gregorian calendar, whose days have 86,400 seconds. Times are seconds of
-- TDB since J2000, which is noon of 2000-01-01. The days are those of `jiff_core`.
use Rattle.std.specs.Prelude.{ℕ, zero, suc, ◌+◌, ◌*◌, ◌/◌, ◌%◌, Bool, ◌&&◌, nat_le, nat_lt, int_le, List, [], ◌∷◌, ◌++◌, ℤ, pos, negsuc, ◌+ℤ◌, ◌-ℤ◌, ◌*ℤ◌, unsigned_abs, if◌then◌else◌}
use Rattle.std.specs.Int.{int_div_euclid, int_rem_euclid}
use Rattle.jiff_core.specs.Calendar.{days_from_civil, days_in_month}
use Rattle.spec_text.specs.Bytes.{minus_sign, digit_zero}
use Rattle.spec_ephemeris.specs.declared.limits.TheConstants.{DAY}
use Rattle.spec_times.specs.declared.calendar.CalendarTime.{CalendarTime}
use Rattle.spec_times.specs.declared.limits.TheConstants.{HALF_DAY, J2000_DAY}

-- n lies from low to high, both included
abbrev pub is_between : ℕ → ℕ → ℕ → Bool
is_between low high n = nat_le low n && nat_le n high

-- the calendar has this date
abbrev pub is_date : CalendarTime → Bool
is_date c = is_between 1 12 c.month && is_between 1 (days_in_month c.year c.month) c.day

-- a clock shows this time of day
abbrev pub is_time_of_day : CalendarTime → Bool
is_time_of_day c = nat_lt c.hour 24 && (nat_lt c.minute 60 && nat_lt c.second 60)

abbrev pub is_calendar_time : CalendarTime → Bool
is_calendar_time c = is_date c && is_time_of_day c

-- what has passed since midnight
abbrev pub second_of_day : CalendarTime → ℕ
second_of_day c = c.hour * 3600 + c.minute * 60 + c.second

-- the midnight that begins a day, which is told by its number: days since 1970-01-01
abbrev pub midnight : ℤ → ℤ
midnight day = (day -ℤ J2000_DAY) *ℤ DAY -ℤ HALF_DAY

-- the time that a calendar and a clock show, in a year from -9999 to 9999
abbrev pub time_of_calendar : CalendarTime → ℤ
time_of_calendar c = midnight (days_from_civil c.year c.month c.day) +ℤ pos (second_of_day c)

-- the number of the day that a time lies in
abbrev pub day_number : ℤ → ℤ
day_number time = int_div_euclid (time +ℤ HALF_DAY) DAY +ℤ J2000_DAY

-- what has passed since its midnight
abbrev pub clock : ℤ → ℕ
clock time = unsigned_abs (int_rem_euclid (time +ℤ HALF_DAY) DAY)

-- the last of the numbers from 1 to n whose start is not past the day; 0 where there is none
unfoldable pub last_begun : (ℕ → ℤ) → ℤ → ℕ → ℕ
last_begun start day zero = 0
last_begun start day (suc n) = if int_le (start (suc n)) day then suc n else last_begun start day n

-- years are counted from -9999, which is the first whose days have numbers, to 9999, the last
abbrev pub year_at : ℕ → ℤ
year_at n = pos n -ℤ pos 10_000

abbrev pub years : ℕ
years = 19_999

-- the number of the first day of a year, and of a month of it
abbrev pub new_year : ℕ → ℤ
new_year n = days_from_civil (year_at n) 1 1

abbrev pub new_month : ℤ → ℕ → ℤ
new_month year month = days_from_civil year month 1

-- the year of a day is the last that begins on it or before it, its month the last of the year that does
abbrev pub year_of : ℤ → ℤ
year_of day = year_at (last_begun new_year day years)

abbrev pub month_of : ℤ → ℕ
month_of day = last_begun (new_month (year_of day)) day 12

-- its place in the month, from 1
abbrev pub day_of_month : ℤ → ℕ
day_of_month day = unsigned_abs (day -ℤ new_month (year_of day) (month_of day)) + 1

-- the date of a day and the time of day that so many seconds since midnight are
abbrev pub calendar_at : ℤ → ℕ → CalendarTime
calendar_at day seconds = record {
  year = year_of day;
  month = month_of day;
  day = day_of_month day;
  hour = seconds / 3600;
  minute = seconds / 60 % 60;
  second = seconds % 60;
}

-- what calendar and clock show at a time
abbrev pub calendar_time : ℤ → CalendarTime
calendar_time time = calendar_at (day_number time) (clock time)

-- the last k decimal digits of a number
abbrev pub digits : ℕ → ℕ → List ℕ
digits zero n = []
digits (suc k) n = digits k (n / 10) ++ (digit_zero + n % 10) ∷ []

-- four digits; six behind a sign below 0
abbrev pub year_text : ℤ → List ℕ
year_text (pos n) = digits 4 n
year_text (negsuc n) = minus_sign ∷ digits 6 (suc n)

-- `YYYY-MM-DD`
abbrev pub date_text : ℤ → ℕ → ℕ → List ℕ
date_text year month day = year_text year ++ (minus_sign ∷ digits 2 month) ++ (minus_sign ∷ digits 2 day)

-- `THH:MM:SS`
abbrev pub time_of_day_text : ℕ → ℕ → ℕ → List ℕ
time_of_day_text hour minute second = (84 ∷ digits 2 hour) ++ (58 ∷ digits 2 minute) ++ (58 ∷ digits 2 second)

-- the same of so many seconds since midnight
abbrev pub clock_text : ℕ → List ℕ
clock_text seconds = time_of_day_text (seconds / 3600) (seconds / 60 % 60) (seconds % 60)

-- `YYYY-MM-DDTHH:MM:SS`
abbrev pub calendar_text : CalendarTime → List ℕ
calendar_text c = date_text c.year c.month c.day ++ time_of_day_text c.hour c.minute c.second

-- the text of a time
unfoldable pub time_text : ℤ → List ℕ
time_text time = calendar_text (calendar_time time)
