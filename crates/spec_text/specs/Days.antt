-- Numbers of days as whole seconds: Julian dates, and lengths of time.
use Rattle.std.specs.Prelude.{ℕ, ◌*◌, ◌/◌, ◌%◌, ◌^◌, ◌==◌, ◌||◌, nat_lt, int_lt, unsigned_abs, pos, Option, None, Some, Result, Ok, Err, if◌then◌else◌}
use borrow.Author.Differences.{up, down}
use Rattle.spec_text.specs.declared.days.DaysFault.{DaysFault}
use Rattle.spec_text.specs.declared.days.DaysFault.TheVariants.{NotWholeSecond, OutOfRange}
use Rattle.spec_text.specs.declared.decimals.Decimal.{Decimal}
use Rattle.spec_text.specs.declared.limits.TheConstants.{DAY_SECONDS, LAST_JULIAN_DAY}

-- the size of a decimal is size_over / size_under
abbrev pub size_over : Decimal → ℕ
size_over d = unsigned_abs d.mant * 10 ^ up d.exp

abbrev pub size_under : Decimal → ℕ
size_under d = 10 ^ down d.exp

abbrev pub quotient : ℕ → ℕ → Option ℕ
quotient n m = if n % m == 0 then Some (n / m) else None

-- so many days, whatever their sign, in seconds, if these are a whole number. J2000 is a whole number of days, so a
-- Julian date is a whole number of seconds from J2000 on exactly where it is one from day 0 on.
abbrev pub seconds_of_days : Decimal → Option ℕ
seconds_of_days d = quotient (DAY_SECONDS * size_over d) (size_under d)

abbrev pub within_days : ℕ → Decimal → Option ℕ → Result ℕ DaysFault
within_days most d None = Err NotWholeSecond
within_days most d (Some seconds) = if int_lt d.mant (pos 0) || nat_lt (DAY_SECONDS * most) seconds then Err OutOfRange else Ok seconds

-- a number of days, from 0 to this one, in seconds
abbrev pub seconds_within : ℕ → Decimal → Result ℕ DaysFault
seconds_within most d = within_days most d (seconds_of_days d)

-- the seconds from Julian date 0 to this date, which is at most the last one
abbrev pub seconds_of_julian_date : Decimal → Result ℕ DaysFault
seconds_of_julian_date date = seconds_within LAST_JULIAN_DAY date
