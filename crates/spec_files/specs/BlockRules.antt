-- The rules of the words of blocks, each given the blocks before and the numbers before it in its block. Times are
-- seconds of TDB since J2000.
use Rattle.std.specs.Prelude.{ℕ, suc, ◌+◌, ◌*◌, ◌^◌, ◌==◌, ◌&&◌, ◌||◌, nat_lt, nat_le, int_le, int_lt, unsigned_abs, Bool, false, List, [], ◌∷◌, length, take, slice_get, Option, Some, Result, Ok, Err, ℤ, pos, ◌+ℤ◌, if◌then◌else◌}
use Rattle.spec_text.specs.Days.{seconds_of_julian_date, size_over, size_under}
use Rattle.spec_text.specs.declared.days.DaysFault.{DaysFault}
use Rattle.spec_text.specs.Reading.{fault_number, reading, whole_at}
use Rattle.spec_text.specs.declared.decimals.Decimal.{Decimal}
use Rattle.spec_text.specs.declared.decimals.NumberFault.{NumberFault}
use Rattle.spec_ephemeris.specs.declared.header.Column.{Column}
use Rattle.spec_ephemeris.specs.declared.limits.TheConstants.{BODY_COLUMNS, FIRST_TIME, MAX_BLOCKS}
use Rattle.spec_ephemeris.specs.Header.{column_size, is_present}
use Rattle.spec_ephemeris.specs.Ephemeris.{Ephemeris, end_of}
use Rattle.spec_files.specs.declared.rules.BrokenRule.{BrokenRule}
use Rattle.spec_files.specs.Sections.{◌>>=◌, broken}
use Rattle.spec_faults.specs.declared.numbers.TheConstants.{RECORD_LINE, NCOEFF_DIFFERS, BLOCK_SPAN, BLOCK_GAP, NUMBER, TOO_LARGE, TOO_MANY_BLOCKS, TRAILING_NUMBERS}

-- the record number may be any
abbrev pub record_numbers : ℕ → Option ℕ → Option ℕ → Result (Unit {0}) BrokenRule
record_numbers ncoeff (Some number) (Some n) = if n == ncoeff then Ok tt else Err (broken NCOEFF_DIFFERS 0)
record_numbers ncoeff number n = Err (broken RECORD_LINE 0)

-- the line before the numbers of a block: two whole numbers, the second of which is NCOEFF
abbrev pub record_line : ℕ → List (List ℕ) → Result (Unit {0}) BrokenRule
record_line ncoeff words =
    if length words == 2 then record_numbers ncoeff (whole_at (slice_get words 0)) (whole_at (slice_get words 1))
    else Err (broken RECORD_LINE 0)

abbrev pub number_by : Result Decimal NumberFault → Result Decimal BrokenRule
number_by (Ok d) = Ok d
number_by (Err fault) = Err (broken NUMBER (fault_number fault))

abbrev pub time_by : Result ℕ DaysFault → Result ℤ BrokenRule
time_by (Ok seconds) = Ok (FIRST_TIME +ℤ pos seconds)
time_by (Err fault) = Err (broken BLOCK_SPAN 0)

-- the time of a Julian date from 0 to 5,000,000 that is a whole number of seconds
abbrev pub time_of : Decimal → Result ℤ BrokenRule
time_of date = time_by (seconds_of_julian_date date)

-- a block that ends no later than the last of the blocks before it
abbrev pub is_skipped : Ephemeris → ℤ → Bool
is_skipped before end = nat_lt 0 before.blocks && int_le end (end_of before)

-- a block that does not begin where the last of the blocks before it ends
abbrev pub is_after_gap : Ephemeris → ℤ → Bool
is_after_gap before start = nat_lt 0 before.blocks && (int_lt start (end_of before) || int_lt (end_of before) start)

-- a block from start to end, after the blocks before it
abbrev pub follows : Ephemeris → ℤ → ℤ → Result (Unit {0}) BrokenRule
follows before start end =
    if is_skipped before end then Ok tt
    else if is_after_gap before start then Err (broken BLOCK_GAP 0)
    else if nat_lt before.blocks MAX_BLOCKS then Ok tt
    else Err (broken TOO_MANY_BLOCKS 0)

abbrev pub has_length : ℤ → ℤ → ℤ → Bool
has_length length start end = int_le (start +ℤ length) end && int_le end (start +ℤ length)

-- the second date of a block, after the first
abbrev pub second_date : Ephemeris → Decimal → Decimal → Result (Unit {0}) BrokenRule
second_date before first second = do
  start ← time_of first
  end ← time_of second
  if has_length before.header.block_seconds start end then follows before start end else Err (broken BLOCK_SPAN 0)

-- whether this place of a block, counted from 1, belongs to a present column of this number
abbrev pub is_place : ℕ → Column → ℕ → Bool
is_place number c place = is_present c && (nat_le c.start place && nat_lt place (c.start + column_size number c))

-- whether it belongs to one of these columns, whose first has this number
abbrev pub is_place_of : ℕ → List Column → ℕ → Bool
is_place_of number [] place = false
is_place_of number (c ∷ cs) place = is_place number c place || is_place_of (suc number) cs place

-- the columns of bodies are the first ones
abbrev pub is_place_of_body : List Column → ℕ → Bool
is_place_of_body columns place = is_place_of 1 (take BODY_COLUMNS columns) place

-- 2^36 km or more in size
abbrev pub is_too_large : Decimal → Bool
is_too_large d = nat_le (2 ^ 36 * size_under d) (size_over d)

abbrev pub coefficient_rule : List Column → ℕ → Decimal → Result (Unit {0}) BrokenRule
coefficient_rule columns place d = if is_too_large d && is_place_of_body columns place then Err (broken TOO_LARGE 0) else Ok tt

abbrev pub first_date : Decimal → Result (Unit {0}) BrokenRule
first_date date = time_of date >>= λ start. Ok tt

-- a number of a block: the first two are dates, and the others have the places after those of the numbers before them
abbrev pub value_rule : Ephemeris → List Decimal → Decimal → Result (Unit {0}) BrokenRule
value_rule before [] d = first_date d
value_rule before (first ∷ []) d = second_date before first d
value_rule before (first ∷ second ∷ numbers) d = coefficient_rule before.header.columns (length numbers + 3) d

-- a word, as the number after these
abbrev pub number_rule : Ephemeris → List Decimal → List ℕ → Result Decimal BrokenRule
number_rule before numbers word = do
  d ← number_by (reading word)
  meets ← value_rule before numbers d
  Ok d

abbrev pub zero_by : Result Decimal NumberFault → Result (Unit {0}) BrokenRule
zero_by (Ok d) = if unsigned_abs d.mant == 0 then Ok tt else Err (broken TRAILING_NUMBERS 0)
zero_by (Err fault) = Err (broken TRAILING_NUMBERS 0)

-- a word after the last number of a block
abbrev pub trailing_rule : List ℕ → Result (Unit {0}) BrokenRule
trailing_rule word = zero_by (reading word)
