-- The text of a calendar time is read as that calendar time.
use Rattle.std.proofs.Common.{◌≡◌, ℕ, suc, neg_ℤ, ◌+◌, ◌/◌, ◌%◌, ◌<◌, ◌≤ℤ◌, ◌==◌, nat_lt, true, false, List, ◌∷◌, ◌++◌, None, Some, refl, sym, ap, ◌∙◌, arith, ℤ, pos, negsuc}
use Rattle.std.specs.Char.{is_ascii_digit}
use Rattle.std.proofs.lemmas.Bool.{ne_eqb, lt-ltb}
use Rattle.std.proofs.lemmas.Bool.Decides.{nat_tests}
use Rattle.jiff_core.specs.Calendar.{IsYear}
use Rattle.jiff_core.proofs.SignedLemmas.{signed_arith}
use Rattle.jiff_core.proofs.CalendarLemmas.{days_in_month_bounds}
use Rattle.spec_text.specs.Decimals.{value}
use Rattle.spec_times.specs.Calendar.{digits, year_text, time_of_day_text, calendar_text, is_calendar_time}
use Rattle.spec_times.specs.declared.calendar.CalendarTime.{CalendarTime}
use Rattle.spec_times.specs.TimeWords.{has_form, year_form, negative_year_form, whole_time, shown, calendar_after, time_of, time_within}
use Rattle.std.specs.Prelude.{codes}

pub digit : (n : ℕ) → is_ascii_digit (48 + n % 10) ≡ true
digit n = grind (arith, nat_tests)

unsigned_digit : (n : ℕ) → ((48 + n % 10) == 45) ≡ false
unsigned_digit n = ne_eqb (48 + n % 10) 45 (λ e. absurd (omega arith))

-- ---- the numbers that digits write

two : (n : ℕ) → n < 100 → value (digits 2 n) ≡ n
two n h = omega arith

four : (n : ℕ) → n < 10000 → value (digits 4 n) ≡ n
four n h = omega arith

six : (n : ℕ) → n < 1000000 → value (digits 6 n) ≡ n
six n h = omega arith

-- ---- the form of a text

-- `-MM-DDTHH:MM:SS`
abbrev rest_text : CalendarTime → List ℕ
rest_text c = (45 ∷ digits 2 c.month) ++ (45 ∷ digits 2 c.day) ++ time_of_day_text c.hour c.minute c.second

-- the text of the same date and time of day in another year
abbrev text_in : ℤ → CalendarTime → List ℕ
text_in year c = year_text year ++ (45 ∷ digits 2 c.month) ++ (45 ∷ digits 2 c.day) ++ time_of_day_text c.hour c.minute c.second

-- the numbers of a calendar time after its year have two digits
pub record IsShort (c : CalendarTime) : Type 0 where
  pub month : c.month < 100
  pub day : c.day < 100
  pub hour : c.hour < 100
  pub minute : c.minute < 100
  pub second : c.second < 100

pub short : (c : CalendarTime) → is_calendar_time c ≡ true → IsShort c
short c is =
    let most = days_in_month_bounds c.year c.month in
    record { month = grind (arith, nat_tests); day = grind (arith, nat_tests); hour = grind (arith, nat_tests); minute = grind (arith, nat_tests); second = grind (arith, nat_tests) }

pub rest_fits : (c : CalendarTime) → has_form (codes "-00-00T00:00:00") (rest_text c) ≡ true
rest_fits c = rw (digit (c.month / 10), digit c.month, digit (c.day / 10), digit c.day, digit (c.hour / 10), digit c.hour, digit (c.minute / 10), digit c.minute, digit (c.second / 10), digit c.second) refl

-- ---- the text is not a whole number

pub not_whole : (c : CalendarTime) → whole_time (calendar_text c) ≡ None
not_whole c = go c.year refl
  where
    go : (y : ℤ) → c.year ≡ y → whole_time (calendar_text c) ≡ None
    go (pos n) e = rw (e, unsigned_digit (n / 10 / 10 / 10), digit (n / 10 / 10 / 10), digit (n / 10 / 10), digit (n / 10), digit n) refl
    go (negsuc n) e = rw (e, digit (suc n / 10 / 10 / 10 / 10 / 10), digit (suc n / 10 / 10 / 10 / 10), digit (suc n / 10 / 10 / 10), digit (suc n / 10 / 10), digit (suc n / 10), digit (suc n)) refl

-- ---- the calendar time that it shows

-- the years that have a text
abbrev pub IsWritten : ℤ → Type 0
IsWritten (pos n) = n < 10000
IsWritten (negsuc n) = suc n < 1000000

pub written : (y : ℤ) → IsYear y → IsWritten y
written (pos n) h = omega (arith, signed_arith, h.1)
written (negsuc n) h = omega (arith, signed_arith, h.0)

rest_shown : (c : CalendarTime) (year : ℤ) → year ≡ c.year → IsShort c → calendar_after year (rest_text c) ≡ c
rest_shown c year same s = λ i. record {
  year = same i;
  month = two c.month s.month i;
  day = two c.day s.day i;
  hour = two c.hour s.hour i;
  minute = two c.minute s.minute i;
  second = two c.second s.second i;
}

year_fits : (n : ℕ) (c : CalendarTime) → has_form year_form (digits 4 n ++ rest_text c) ≡ true
year_fits n c = rw (digit (n / 10 / 10 / 10), digit (n / 10 / 10), digit (n / 10), digit n) (rest_fits c)

negative_year_fits : (n : ℕ) (c : CalendarTime) → has_form negative_year_form (45 ∷ digits 6 n ++ rest_text c) ≡ true
negative_year_fits n c = rw (digit (n / 10 / 10 / 10 / 10 / 10), digit (n / 10 / 10 / 10 / 10), digit (n / 10 / 10 / 10), digit (n / 10 / 10), digit (n / 10), digit n) (rest_fits c)

shown_year : (n : ℕ) (c : CalendarTime) → n < 10000 → c.year ≡ pos n → IsShort c → shown (digits 4 n ++ rest_text c) ≡ Some c
shown_year n c h e s =
    let same : pos (value (digits 4 n)) ≡ c.year = ap pos (four n h) ∙ sym e in
    rw (year_fits n c) (ap (λ (x : CalendarTime). Some x) (rest_shown c (pos (value (digits 4 n))) same s))

shown_negative_year : (n : ℕ) (c : CalendarTime) → suc n < 1000000 → c.year ≡ negsuc n → IsShort c → shown (45 ∷ digits 6 (suc n) ++ rest_text c) ≡ Some c
shown_negative_year n c h e s =
    let size : value (digits 6 (suc n)) ≡ suc n = six (suc n) h in
    let some : nat_lt 0 (value (digits 6 (suc n))) ≡ true = rw size (lt-ltb 0 (suc n) (omega arith)) in
    let same : neg_ℤ (pos (value (digits 6 (suc n)))) ≡ c.year = ap (λ (k : ℕ). neg_ℤ (pos k)) size ∙ sym e in
    rw (negative_year_fits (suc n) c, some) (ap (λ (x : CalendarTime). Some x) (rest_shown c (neg_ℤ (pos (value (digits 6 (suc n))))) same s))

shown_text : (c : CalendarTime) → IsWritten c.year → IsShort c → shown (calendar_text c) ≡ Some c
shown_text c h s = go c.year refl h
  where
    go : (y : ℤ) → c.year ≡ y → IsWritten y → shown (calendar_text c) ≡ Some c
    go (pos n) e k = ap (λ (y : ℤ). shown (text_in y c)) e ∙ shown_year n c k e s
    go (negsuc n) e k = ap (λ (y : ℤ). shown (text_in y c)) e ∙ shown_negative_year n c k e s

pub time_of_text : (c : CalendarTime) → is_calendar_time c ≡ true → IsWritten c.year → time_of (calendar_text c) ≡ time_within c
unfolding time_of
time_of_text c is h = rw (not_whole c, shown_text c h (short c is), is) refl

-- years from -999999 to 9999 have a text
year_written : (y : ℤ) → neg_ℤ (pos 999999) ≤ℤ y → y ≤ℤ pos 9999 → IsWritten y
year_written (pos n) low high = omega (arith, signed_arith)
year_written (negsuc n) low high = omega (arith, signed_arith)

pub time_of_written : (c : CalendarTime) → is_calendar_time c ≡ true → neg_ℤ (pos 999999) ≤ℤ c.year → c.year ≤ℤ pos 9999 → time_of (calendar_text c) ≡ time_within c
time_of_written c is low high = time_of_text c is (year_written c.year low high)
