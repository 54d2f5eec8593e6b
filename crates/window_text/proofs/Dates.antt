-- Days and dates as the code has them.
use Rattle.std.proofs.Common.{◌≡◌, ◌∙◌, ℕ, ◌<◌, ◌≤◌, true, ℤ, pos, ◌+ℤ◌, to_z, of_z, to_z-of_z, w8, w16, w32, w64, ap, sym, subst, arith}
use Rattle.std.specs.Int.{int_div_euclid}
use mir.Val.{SFits}
use Rattle.std.proofs.lemmas.Bool.Decides.{nat_tests}
use Rattle.std.proofs.lemmas.Int.{ints, to_z_pos}
use Rattle.jiff_core.specs.Calendar.{days_in_month, IsDate, IsEpochDay, IsYear}
use Rattle.jiff_core.proofs.SignedLemmas.{signed_arith, fits_between}
use Rattle.spec_times.specs.declared.calendar.CalendarTime.{CalendarTime}
use Rattle.spec_times.specs.Calendar.{day_number, is_calendar_time}
use Rattle.spec_times.proofs.Times.{day_is as day_within}
use Rattle.spec_times.specs.TimeWords.{IsTime}

-- ---- a date that a word shows

-- the calendar has the date
pub civil_date : (c : CalendarTime) → is_calendar_time c ≡ true → (1 ≤ c.month) × (c.month ≤ 12) × (1 ≤ c.day) × (c.day ≤ days_in_month c.year c.month)
civil_date c is = (grind (arith, nat_tests), grind (arith, nat_tests), grind (arith, nat_tests), grind (arith, nat_tests))

pub date_exists : (c : CalendarTime) (year month day : ℤ) → year ≡ c.year → month ≡ pos c.month → day ≡ pos c.day → IsYear c.year → is_calendar_time c ≡ true → IsDate year month day
date_exists c year month day y m d known is =
    let date = civil_date c is in
    rw (y, m, d) (known, (omega (arith, signed_arith, date.0), omega (arith, signed_arith, date.1)), (omega (arith, signed_arith, date.2), omega (arith, signed_arith, date.3)))

pub year_back : (y : ℤ) → IsYear y → to_z w16 (of_z w16 (to_z w64 (of_z w64 y))) ≡ y
year_back y h =
    let wide : to_z w64 (of_z w64 y) ≡ y = to_z-of_z (fits_between w64 y (omega (arith, signed_arith, h.0, h.1), omega (arith, signed_arith, h.0, h.1))) in
    rw wide (to_z-of_z (fits_between w16 y (omega (arith, signed_arith, h.0, h.1), omega (arith, signed_arith, h.0, h.1))))

pub byte_back : (n : ℕ) → n < 128 → to_z w8 n ≡ pos n
byte_back n h = to_z_pos w8 n h

pub year_fits : (y : ℤ) → IsYear y → SFits w16 (to_z w64 (of_z w64 y))
year_fits y h =
    let wide : to_z w64 (of_z w64 y) ≡ y = to_z-of_z (fits_between w64 y (omega (arith, signed_arith, h.0, h.1), omega (arith, signed_arith, h.0, h.1))) in
    rw wide (fits_between w16 y (omega (arith, signed_arith, h.0, h.1), omega (arith, signed_arith, h.0, h.1)))

-- a day of the calendar in 32 bits, and then in 64
pub day_fits : (d : ℤ) → IsEpochDay d → SFits w64 (to_z w32 (of_z w32 d))
day_fits d h =
    let narrow : to_z w32 (of_z w32 d) ≡ d = to_z-of_z (fits_between w32 d (omega (arith, signed_arith, h.0, h.1), omega (arith, signed_arith, h.0, h.1))) in
    rw narrow (fits_between w64 d (omega (arith, signed_arith, h.0, h.1), omega (arith, signed_arith, h.0, h.1)))

pub day_is : (d : ℤ) → IsEpochDay d → to_z w64 (of_z w64 (to_z w32 (of_z w32 d))) ≡ d
day_is d h =
    let narrow : to_z w32 (of_z w32 d) ≡ d = to_z-of_z (fits_between w32 d (omega (arith, signed_arith, h.0, h.1), omega (arith, signed_arith, h.0, h.1))) in
    to_z-of_z (day_fits d h) ∙ narrow

-- a time from midnight on, as the calendar counts it
pub noon_fits : (t : ℤ) → IsTime t → SFits w64 (to_z w64 (of_z w64 t) +ℤ pos 43200)
noon_fits t is = omega (arith, ints, is.low, is.high)

-- the day that a time lies in, from the days that its noons count
module _ (t r : ℤ) (is : IsTime t) (fits : SFits w64 r) (days : r ≡ int_div_euclid (to_z w64 (of_z w64 (to_z w64 (of_z w64 t) +ℤ pos 43200))) (pos 86400)) where
  noon : to_z w64 (of_z w64 (to_z w64 (of_z w64 t) +ℤ pos 43200)) ≡ t +ℤ pos 43200
  noon = omega (arith, ints, is.low, is.high)

  whole : r ≡ int_div_euclid (t +ℤ pos 43200) (pos 86400)
  whole = days ∙ ap (λ (z : ℤ). int_div_euclid z (pos 86400)) noon

  within : IsEpochDay (r +ℤ pos 10957)
  within = subst (λ (z : ℤ). IsEpochDay (z +ℤ pos 10957)) (sym whole) (day_within t is)

  pub day_number_fits : SFits w64 (to_z w64 (of_z w64 r) +ℤ pos 10957)
  day_number_fits = omega (arith, ints, within.0, within.1)

  pub day_number_is : to_z w64 (of_z w64 (to_z w64 (of_z w64 r) +ℤ pos 10957)) ≡ day_number t
  day_number_is =
      let small : to_z w64 (of_z w64 (to_z w64 (of_z w64 r) +ℤ pos 10957)) ≡ r +ℤ pos 10957 = omega (arith, ints, within.0, within.1) in
      small ∙ ap (λ (z : ℤ). z +ℤ pos 10957) whole
