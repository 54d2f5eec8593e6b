-- The date of a day: it is one of the calendar, its day is that day, and no other date's is.
use Rattle.std.proofs.Common.{◌≡◌, ℕ, zero, suc, ◌+◌, ◌<◌, ◌≤◌, inl, inr, true, false, refl, arith, ℤ, pos, negsuc, neg_ℤ, ◌+ℤ◌, ◌-ℤ◌, ◌<ℤ◌, ◌≤ℤ◌, unsigned_abs, int_le}
use Rattle.std.proofs.lemmas.Bool.{cases_Bool, cases_eq}
use Rattle.jiff_core.specs.Calendar.{days_from_civil, days_in_month, IsCivilDate, IsEpochDay, IsYear}
use Rattle.jiff_core.specs.declared.civil.date.Date.{Date}
use Rattle.jiff_core.proofs.SignedLemmas.{signed_arith}
use Rattle.jiff_core.proofs.CalendarLemmas.{days_in_month_bounds}
use Rattle.jiff_core.proofs.DateLemmas.{epoch_day_injective, days_from_civil-day, days_from_civil-next_month, days_from_civil-next_year, days_from_civil-min, days_from_civil-max}
use Rattle.spec_times.specs.Calendar.{last_begun, year_at, new_year, new_month, year_of, month_of, day_of_month}

-- ---- the last that has begun

pub record IsLastBegun (start : ℕ → ℤ) (day : ℤ) (n k : ℕ) : Type 0 where
  pub low : 0 < k
  pub high : k ≤ n
  pub begun : start k ≤ℤ day
  pub later : (j : ℕ) → k < j → j ≤ n → day <ℤ start j

last_begun-true : (start : ℕ → ℤ) (day : ℤ) (n : ℕ) → int_le (start (suc n)) day ≡ true → last_begun start day (suc n) ≡ suc n
unfolding last_begun
last_begun-true start day n h = rw h refl

last_begun-false : (start : ℕ → ℤ) (day : ℤ) (n : ℕ) → int_le (start (suc n)) day ≡ false → last_begun start day (suc n) ≡ last_begun start day n
unfolding last_begun
last_begun-false start day n h = rw h refl

pub last_begun_is : (start : ℕ → ℤ) (day : ℤ) (n : ℕ) → start 1 ≤ℤ day → 0 < n → IsLastBegun start day n (last_begun start day n)
last_begun_is start day zero first some = absurd (omega arith)
last_begun_is start day (suc n) first some = elim (cases_Bool (int_le (start (suc n)) day)) [
  | inl begun ↦ rw (last_begun-true start day n begun) (record {
    low = omega arith;
    high = omega arith;
    begun = omega (arith, signed_arith);
    later = λ j after most. absurd (omega arith);
  })
  | inr not_begun ↦ elim (cases_eq n 0) [
    | inl zero_is ↦ let one : suc n ≡ 1 = omega arith in absurd (omega (arith, signed_arith, rw one at not_begun))
    | inr more ↦ let before = last_begun_is start day n first (omega arith) in
        rw (last_begun-false start day n not_begun) (record {
          low = before.low;
          high = omega (arith, before.high);
          begun = before.begun;
          later = λ j after most. elim (cases_eq j (suc n)) [
            | inl same ↦ rw same (omega (arith, signed_arith))
            | inr other ↦ before.later j after (omega arith)
          ];
        })
  ]
]

-- a number that is not below 0 is its size
pub abs_is : (z : ℤ) → pos 0 ≤ℤ z → pos (unsigned_abs z) ≡ z
abs_is (pos n) h = refl
abs_is (negsuc n) h = absurd (omega (arith, signed_arith))

-- ---- years

year_is : (k : ℕ) → 0 < k → k ≤ 19999 → IsYear (year_at k)
year_is k low high = omega (arith, signed_arith)

first_year : new_year 1 ≡ neg_ℤ (pos 4371587)
first_year = days_from_civil-min

next_year : (k : ℕ) → new_year (suc k) ≡ days_from_civil (year_at k) 12 31 +ℤ pos 1
next_year k = days_from_civil-next_year (year_at k) (year_at (suc k)) (omega (arith, signed_arith)) (omega (arith, signed_arith))

-- a day lies in its year
pub record IsInYear (day : ℤ) (k : ℕ) : Type 0 where
  pub low : 0 < k
  pub high : k ≤ 19999
  pub begun : new_year k ≤ℤ day
  pub ends : day ≤ℤ days_from_civil (year_at k) 12 31

year_of_day : (day : ℤ) (k : ℕ) → IsEpochDay day → IsLastBegun new_year day 19999 k → IsInYear day k
year_of_day day k h is = record {
  low = is.low;
  high = is.high;
  begun = is.begun;
  ends = elim (cases_eq k 19999) [
    | inl last ↦ rw last (omega (arith, signed_arith, h.1, days_from_civil-max))
    | inr before ↦ omega (arith, signed_arith, next_year k, is.later (suc k) (omega arith) (omega arith))
  ];
}

-- ---- months

pub record IsInMonth (year : ℤ) (day : ℤ) (m : ℕ) : Type 0 where
  pub low : 0 < m
  pub high : m ≤ 12
  pub begun : new_month year m ≤ℤ day
  pub ends : day ≤ℤ days_from_civil year m (days_in_month year m)

month_of_day : (year day : ℤ) (m : ℕ) → day ≤ℤ days_from_civil year 12 31 → IsLastBegun (new_month year) day 12 m → IsInMonth year day m
month_of_day year day m ends is = record {
  low = is.low;
  high = is.high;
  begun = is.begun;
  ends = elim (cases_eq m 12) [
    | inl last ↦ rw last ends
    | inr before ↦
        let after = is.later (m + 1) (omega arith) (omega arith) in
        omega (arith, signed_arith, days_from_civil-next_month year m (days_in_month year m) is.low refl, after)
  ];
}

-- ---- the date of a day

pub record IsDateOf (day : ℤ) (y : ℤ) (m d : ℕ) : Type 0 where
  pub civil : IsCivilDate y m d
  pub number : days_from_civil y m d ≡ day

date_is : (year day : ℤ) (m : ℕ) → IsYear year → IsInMonth year day m → IsDateOf day year m (unsigned_abs (day -ℤ new_month year m) + 1)
date_is year day m known is =
    let d = unsigned_abs (day -ℤ new_month year m) + 1 in
    let some = days_in_month_bounds year m in
    let size = abs_is (day -ℤ new_month year m) (omega (arith, signed_arith, is.begun)) in
    let place : days_from_civil year m d ≡ day = omega (arith, signed_arith, size, days_from_civil-day year m d 1 (omega arith) (omega arith)) in
    let fits : d ≤ days_in_month year m = omega (arith, signed_arith, is.ends, place, days_from_civil-day year m d (days_in_month year m) (omega arith) (omega arith)) in
    record { civil = (known, (is.low, is.high), (omega arith, fits)); number = place }

pub date_of_day : (day : ℤ) → IsEpochDay day → IsDateOf day (year_of day) (month_of day) (day_of_month day)
date_of_day day h =
    let k = last_begun new_year day 19999 in
    let year = year_of_day day k h (last_begun_is new_year day 19999 (omega (arith, signed_arith, h.0, first_year)) (omega arith)) in
    let m = last_begun (new_month (year_at k)) day 12 in
    let month = month_of_day (year_at k) day m year.ends (last_begun_is (new_month (year_at k)) day 12 year.begun (omega arith)) in
    date_is (year_at k) day m (year_is k year.low year.high) month

pub numbers_of_dates : (day : ℤ) → IsEpochDay day → days_from_civil (year_of day) (month_of day) (day_of_month day) ≡ day
numbers_of_dates day h = (date_of_day day h).number

pub dates_of_days : (day : ℤ) → IsEpochDay day → IsCivilDate (year_of day) (month_of day) (day_of_month day)
dates_of_days day h = (date_of_day day h).civil

abbrev date : (y : ℤ) (m d : ℕ) → IsCivilDate y m d → Date
date y m d h = record { year = y; month = m; day = d; year_in = h.0; month_in = h.1; day_in = h.2 }

-- two dates of one day have the same parts
pub one_date : (y : ℤ) (m d : ℕ) (y₂ : ℤ) (m₂ d₂ : ℕ) → IsCivilDate y m d → IsCivilDate y₂ m₂ d₂ → days_from_civil y m d ≡ days_from_civil y₂ m₂ d₂ → (y ≡ y₂) × (m ≡ m₂) × (d ≡ d₂)
one_date y m d y₂ m₂ d₂ h k e = epoch_day_injective (date y m d h) (date y₂ m₂ d₂ k) e
