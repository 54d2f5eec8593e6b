-- Times in ticks, so many to a second, on the calendar: their texts, and the ticks that a word stands for.
use Rattle.std.specs.Prelude.{ℕ, ◌-◌, ◌==◌, ◌&&◌, Bool, int_le, List, [], ◌∷◌, ◌++◌, length, take, drop, codes, Option, None, Some, Result, Ok, Err, ℤ, pos, ◌+ℤ◌, ◌*ℤ◌, ◌≤ℤ◌, unsigned_abs, if◌then◌else◌}
use Rattle.std.specs.Int.{int_div_euclid, int_rem_euclid}
use Rattle.spec_text.specs.Decimals.{value}
use Rattle.spec_ephemeris.specs.declared.limits.TheConstants.{FIRST_TIME, LAST_TIME}
use Rattle.spec_times.specs.Calendar.{digits, time_text}
use Rattle.spec_times.specs.TimeWords.{has_form, shown, time_shown, whole_time}
use Rattle.spec_times.specs.declared.faults.TimeFault.{TimeFault}
use Rattle.spec_times.specs.declared.faults.TimeFault.TheVariants.{OutOfRange}

-- ---- texts
-- the last second that has begun, and the ticks past it
abbrev pub second_of : ℕ → ℤ → ℤ
second_of tick t = int_div_euclid t (pos tick)

abbrev pub past_second : ℕ → ℤ → ℕ
past_second tick t = unsigned_abs (int_rem_euclid t (pos tick))

-- a point and three digits where ticks are milliseconds
abbrev pub fraction_text : ℕ → ℕ → List ℕ
fraction_text tick n = if tick == 1 then [] else 46 ∷ digits 3 n

unfoldable pub tick_text : ℕ → ℤ → List ℕ
tick_text tick t = time_text (second_of tick t) ++ fraction_text tick (past_second tick t)

-- ---- words
-- a time in ticks from Julian date 0 to Julian date 5,000,000
pub record IsTimeIn (tick : ℕ) (t : ℤ) : Type 0 where
  pub low : (FIRST_TIME *ℤ pos tick) ≤ℤ t
  pub high : t ≤ℤ (LAST_TIME *ℤ pos tick)

abbrev pub within_tick_limits : ℕ → ℤ → Result ℤ TimeFault
within_tick_limits tick t = if int_le (FIRST_TIME *ℤ pos tick) t && int_le t (LAST_TIME *ℤ pos tick) then Ok t else Err OutOfRange

-- a second, and ticks past it
abbrev pub tick_from : ℕ → ℕ → Result ℤ TimeFault → Result ℤ TimeFault
tick_from tick past (Ok second) = within_tick_limits tick (second *ℤ pos tick +ℤ pos past)
tick_from tick past (Err fault) = Err fault

-- the word ends in a point and three digits
abbrev pub ending : List ℕ → List ℕ
ending word = drop (length word - 4) word

abbrev pub has_fraction : List ℕ → Bool
has_fraction word = has_form (codes ".000") (ending word)

abbrev pub before_fraction : List ℕ → List ℕ
before_fraction word = take (length word - 4) word

abbrev pub shown_tick : ℕ → List ℕ → Result ℤ TimeFault
shown_tick tick word =
    if (tick == 1000) && has_fraction word
    then tick_from tick (value (drop 1 (ending word))) (time_shown (shown (before_fraction word)))
    else tick_from tick 0 (time_shown (shown word))

-- a whole number counts seconds
abbrev pub tick_or_shown : ℕ → List ℕ → Option ℤ → Result ℤ TimeFault
tick_or_shown tick word None = shown_tick tick word
tick_or_shown tick word (Some second) = within_tick_limits tick (second *ℤ pos tick)

-- the time in ticks that a word stands for, or why it stands for none: a whole number counts seconds, and so does the
-- calendar form, which has a fraction only where ticks are milliseconds
unfoldable pub tick_of : ℕ → List ℕ → Result ℤ TimeFault
tick_of tick word = tick_or_shown tick word (whole_time word)
