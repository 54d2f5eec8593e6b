-- The rules of the lines of a header, each on the words of one line, with the first rule that is broken from left to right.
use Rattle.std.specs.Prelude.{ℕ, suc, ◌*◌, ◌==◌, ◌&&◌, ◌||◌, nat_lt, nat_le, int_lt, pos, Bool, List, [], ◌∷◌, length, slice_get, Option, None, Some, Result, Ok, Err, codes, if◌then◌else◌}
use Rattle.std.specs.Str.{bytes_eq}
use Rattle.spec_text.specs.Days.{seconds_of_julian_date, seconds_within, size_over, size_under}
use Rattle.spec_text.specs.Reading.{fault_number, reading, whole_at}
use Rattle.spec_text.specs.declared.days.DaysFault.{DaysFault}
use Rattle.spec_text.specs.declared.days.DaysFault.TheVariants.{NotWholeSecond, OutOfRange}
use Rattle.spec_text.specs.declared.decimals.Decimal.{Decimal}
use Rattle.spec_text.specs.declared.decimals.NumberFault.{NumberFault}
use Rattle.spec_ephemeris.specs.declared.limits.TheConstants.{MIN_NUMBERS, MAX_NUMBERS, MIN_MASS_RATIO, GREATEST_MASS_RATIO}
use Rattle.spec_faults.specs.declared.numbers.TheConstants.{FIRST_LINE, GROUP_MISSING, JD_NOT_WHOLE_SECOND, COUNT_MISMATCH, EMRAT_MISSING, EMRAT_RANGE, LIMIT, HEADER_NUMBER}
use Rattle.spec_files.specs.declared.limits.TheConstants.{MAX_BLOCK_DAYS, MAX_CONSTANTS}
use Rattle.spec_files.specs.declared.rules.BrokenRule.{BrokenRule}
use Rattle.spec_files.specs.Sections.{◌>>=◌, broken, is_word}

-- NCOEFF is from 3 to 4,096
abbrev pub ncoeff_of : Option ℕ → Result ℕ BrokenRule
ncoeff_of None = Err (broken FIRST_LINE 0)
ncoeff_of (Some n) = if nat_lt n MIN_NUMBERS || nat_lt MAX_NUMBERS n then Err (broken LIMIT 0) else Ok n

-- four words: KSIZE=, any word, NCOEFF= and a whole number
abbrev pub first_line : List (List ℕ) → Result ℕ BrokenRule
first_line words =
    if length words == 4 && (is_word (slice_get words 0) (codes "KSIZE=") && is_word (slice_get words 2) (codes "NCOEFF="))
    then ncoeff_of (whole_at (slice_get words 3)) else Err (broken FIRST_LINE 0)

-- two words: GROUP and the group's number
abbrev pub group : List ℕ → ℕ → List (List ℕ) → Result (Unit {0}) BrokenRule
group name number words =
    if length words == 2 && (is_word (slice_get words 0) (codes "GROUP") && is_word (slice_get words 1) name)
    then Ok tt else Err (broken GROUP_MISSING number)

abbrev pub decimal_by : Result Decimal NumberFault → Result Decimal BrokenRule
decimal_by (Ok d) = Ok d
decimal_by (Err fault) = Err (broken HEADER_NUMBER (fault_number fault))

-- the decimal at a place of a line; where no word stands, that is no number
abbrev pub decimal_at : Option (List ℕ) → Result Decimal BrokenRule
decimal_at None = Err (broken HEADER_NUMBER 1)
decimal_at (Some word) = decimal_by (reading word)

abbrev pub days_rule : DaysFault → BrokenRule
days_rule NotWholeSecond = broken JD_NOT_WHOLE_SECOND 0
days_rule OutOfRange = broken LIMIT 0

abbrev pub days_by : Result ℕ DaysFault → Result ℕ BrokenRule
days_by (Ok seconds) = Ok seconds
days_by (Err fault) = Err (days_rule fault)

abbrev pub not_none : ℕ → Result ℕ BrokenRule
not_none seconds = if seconds == 0 then Err (broken LIMIT 0) else Ok seconds

-- the days of a block, from one second to 64 days, in seconds
abbrev pub block_length : Decimal → Result ℕ BrokenRule
block_length days = days_by (seconds_within MAX_BLOCK_DAYS days) >>= not_none

-- three decimals: the first and the last Julian date, and the days of a block, whose seconds are the answer
abbrev pub span : List (List ℕ) → Result ℕ BrokenRule
span words = do
  start ← decimal_at (slice_get words 0)
  first ← days_by (seconds_of_julian_date start)
  final ← decimal_at (slice_get words 1)
  last ← days_by (seconds_of_julian_date final)
  days ← decimal_at (slice_get words 2)
  block_length days

abbrev pub name_count_of : Option ℕ → Result ℕ BrokenRule
name_count_of None = Err (broken HEADER_NUMBER 1)
name_count_of (Some n) = if nat_lt MAX_CONSTANTS n then Err (broken LIMIT 0) else Ok n

-- the count of the names of constants
abbrev pub name_count : List (List ℕ) → Result ℕ BrokenRule
name_count words = name_count_of (whole_at (slice_get words 0))

-- the place of the first name EMRAT, counted from k
abbrev pub emrat_from : ℕ → List (List ℕ) → Option ℕ
emrat_from k [] = None
emrat_from k (name ∷ names) = if bytes_eq name (codes "EMRAT") then Some k else emrat_from (suc k) names

abbrev pub emrat_place_of : Option ℕ → Result ℕ BrokenRule
emrat_place_of None = Err (broken EMRAT_MISSING 0)
emrat_place_of (Some place) = Ok place

abbrev pub value_count_of : ℕ → Option ℕ → Option ℕ → Result ℕ BrokenRule
value_count_of names emrat None = Err (broken HEADER_NUMBER 1)
value_count_of names emrat (Some n) = if n == names then emrat_place_of emrat else Err (broken COUNT_MISMATCH 0)

-- the count of the values is that of the names, one of which is EMRAT; its place is the answer
abbrev pub value_count : ℕ → Option ℕ → List (List ℕ) → Result ℕ BrokenRule
value_count names emrat words = value_count_of names emrat (whole_at (slice_get words 0))

-- EMRAT, the mass of the Earth over that of the Moon, is from 1 to 1,000
abbrev pub is_mass_ratio : Decimal → Bool
is_mass_ratio d =
    int_lt (pos 0) d.mant
    && (nat_le (MIN_MASS_RATIO * size_under d) (size_over d) && nat_le (size_over d) (GREATEST_MASS_RATIO * size_under d))

abbrev pub mass_ratio_of : Decimal → Result Decimal BrokenRule
mass_ratio_of d = if is_mass_ratio d then Ok d else Err (broken EMRAT_RANGE 0)

-- the value at the place of EMRAT
abbrev pub mass_ratio : List ℕ → Result Decimal BrokenRule
mass_ratio word = decimal_by (reading word) >>= mass_ratio_of
