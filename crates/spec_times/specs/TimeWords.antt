-- The time that a word stands for: a whole number, or a calendar and a clock.
use Rattle.std.specs.Prelude.{ℕ, ◌≤ℤ◌, ◌==◌, ◌&&◌, ◌||◌, Bool, true, false, nat_lt, int_le, int_lt, List, [], ◌∷◌, length, take, drop, codes, Option, None, Some, Result, Ok, Err, ℤ, pos, neg_ℤ, if◌then◌else◌}
use Rattle.std.specs.Char.{is_ascii_digit}
use Rattle.std.specs.List.{list_all}
use Rattle.spec_text.specs.Bytes.{minus_sign, digit_zero}
use Rattle.spec_text.specs.Decimals.{value}
use Rattle.spec_ephemeris.specs.declared.limits.TheConstants.{FIRST_TIME, LAST_TIME}
use Rattle.spec_times.specs.Calendar.{is_between, is_calendar_time, time_of_calendar}
use Rattle.spec_times.specs.declared.calendar.CalendarTime.{CalendarTime}
use Rattle.spec_times.specs.declared.faults.TimeFault.{TimeFault}
use Rattle.spec_times.specs.declared.faults.TimeFault.TheVariants.{NotTime, OutOfRange}
use Rattle.spec_times.specs.declared.limits.TheConstants.{FIRST_YEAR, LAST_YEAR, MAX_TIME_DIGITS}

-- ---- the whole-number form: perhaps a minus sign, and 1 to 12 digits

abbrev pub are_time_digits : List ℕ → Bool
are_time_digits word = list_all is_ascii_digit word && is_between 1 MAX_TIME_DIGITS (length word)

abbrev pub whole_of : List ℕ → Option ℤ
whole_of word = if are_time_digits word then Some (pos (value word)) else None

abbrev pub negated_of : List ℕ → Option ℤ
negated_of word = if are_time_digits word then Some (neg_ℤ (pos (value word))) else None

abbrev pub whole_time : List ℕ → Option ℤ
whole_time [] = None
whole_time (b ∷ word) = if b == minus_sign then negated_of word else whole_of (b ∷ word)

-- ---- the calendar form

-- a byte of a picture: 0 stands for any digit, everything else for itself
abbrev pub fits : ℕ → ℕ → Bool
fits mark byte = if mark == digit_zero then is_ascii_digit byte else mark == byte

-- the word looks as the picture does
abbrev pub has_form : List ℕ → List ℕ → Bool
has_form [] [] = true
has_form [] (b ∷ word) = false
has_form (mark ∷ picture) [] = false
has_form (mark ∷ picture) (b ∷ word) = fits mark b && has_form picture word

abbrev pub year_form : List ℕ
year_form = codes "0000-00-00T00:00:00"

abbrev pub negative_year_form : List ℕ
negative_year_form = codes "-000000-00-00T00:00:00"

-- the number that the two digits at a place write
abbrev pub two_digits_at : ℕ → List ℕ → ℕ
two_digits_at place word = value (take 2 (drop place word))

-- what `-MM-DDTHH:MM:SS` after a year shows
abbrev pub calendar_after : ℤ → List ℕ → CalendarTime
calendar_after year rest = record {
  year = year;
  month = two_digits_at 1 rest;
  day = two_digits_at 4 rest;
  hour = two_digits_at 7 rest;
  minute = two_digits_at 10 rest;
  second = two_digits_at 13 rest;
}

abbrev pub year_digits : List ℕ → ℕ
year_digits word = value (take 4 word)

abbrev pub negative_year_digits : List ℕ → ℕ
negative_year_digits word = value (take 6 (drop 1 word))

-- a year below 0; no year is -0
abbrev pub has_negative_year : List ℕ → Bool
has_negative_year word = has_form negative_year_form word && nat_lt 0 (negative_year_digits word)

-- what a word shows in this form
abbrev pub shown : List ℕ → Option CalendarTime
shown word =
    if has_form year_form word then Some (calendar_after (pos (year_digits word)) (drop 4 word))
    else if has_negative_year word
    then Some (calendar_after (neg_ℤ (pos (negative_year_digits word))) (drop 7 word))
    else None

-- ---- the time

-- a time from Julian date 0 to Julian date 5,000,000
pub record IsTime (time : ℤ) : Type 0 where
  pub low : FIRST_TIME ≤ℤ time
  pub high : time ≤ℤ LAST_TIME

abbrev pub within_limits : ℤ → Result ℤ TimeFault
within_limits time = if int_le FIRST_TIME time && int_le time LAST_TIME then Ok time else Err OutOfRange

-- the years before -9999 end before Julian date 0, and those after 9999 begin after Julian date 5,000,000
abbrev pub time_within : CalendarTime → Result ℤ TimeFault
time_within c =
    if int_lt c.year FIRST_YEAR || int_lt LAST_YEAR c.year then Err OutOfRange
    else within_limits (time_of_calendar c)

abbrev pub time_shown : Option CalendarTime → Result ℤ TimeFault
time_shown None = Err NotTime
time_shown (Some c) = if is_calendar_time c then time_within c else Err NotTime

abbrev pub time_or_shown : List ℕ → Option ℤ → Result ℤ TimeFault
time_or_shown word None = time_shown (shown word)
time_or_shown word (Some time) = within_limits time

-- the time that a word stands for, or why it stands for none
unfoldable pub time_of : List ℕ → Result ℤ TimeFault
time_of word = time_or_shown word (whole_time word)
