-- Worked texts of times.
use Rattle.std.proofs.Common.{◌≡◌, refl, arith, rules, ℤ, pos, neg_ℤ, ◌≤ℤ◌}
use Rattle.std.specs.Prelude.{codes}
use Rattle.jiff_core.specs.Calendar.{days_from_civil}
use Rattle.jiff_core.proofs.SignedLemmas.{signed_arith}
use Rattle.jiff_core.proofs.CalendarLemmas.{days_from_civil-day_count}
use Rattle.jiff_core.proofs.MarchLemmas.{day_count-early, day_count-late}
use Rattle.spec_ephemeris.specs.declared.limits.TheConstants.{FIRST_TIME, LAST_TIME}
use Rattle.spec_times.specs.Calendar.{time_text}
use Rattle.spec_times.specs.TimeWords.{IsTime}
use Rattle.spec_times.proofs.Times.{text_of_date}

time : (t : ℤ) → FIRST_TIME ≤ℤ t → t ≤ℤ LAST_TIME → IsTime t
time t low high = record { low = low; high = high }

pub j2000 : time_text (pos 0) ≡ codes "2000-01-01T12:00:00"
j2000 =
    let day : days_from_civil (pos 2000) 1 1 ≡ pos 10957 = omega (arith, signed_arith, days_from_civil-day_count (pos 2000) 1 1, day_count-early (pos 2000) 11999 1 1 refl (omega arith) (omega arith) (omega arith)) in
    text_of_date (pos 0) (pos 2000) 1 1 (time (pos 0) (omega (arith, signed_arith)) (omega (arith, signed_arith))) (search rules) day

pub before_j2000 : time_text (neg_ℤ (pos 1)) ≡ codes "2000-01-01T11:59:59"
before_j2000 =
    let day : days_from_civil (pos 2000) 1 1 ≡ pos 10957 = omega (arith, signed_arith, days_from_civil-day_count (pos 2000) 1 1, day_count-early (pos 2000) 11999 1 1 refl (omega arith) (omega arith) (omega arith)) in
    text_of_date (neg_ℤ (pos 1)) (pos 2000) 1 1 (time (neg_ℤ (pos 1)) (omega (arith, signed_arith)) (omega (arith, signed_arith))) (search rules) day

pub leap_day : time_text (pos 5140799) ≡ codes "2000-02-29T23:59:59"
leap_day =
    let day : days_from_civil (pos 2000) 2 29 ≡ pos 11016 = omega (arith, signed_arith, days_from_civil-day_count (pos 2000) 2 29, day_count-early (pos 2000) 11999 2 29 refl (omega arith) (omega arith) (omega arith)) in
    text_of_date (pos 5140799) (pos 2000) 2 29 (time (pos 5140799) (omega (arith, signed_arith)) (omega (arith, signed_arith))) (search rules) day

pub first : time_text FIRST_TIME ≡ codes "-004713-11-24T12:00:00"
first =
    let year = neg_ℤ (pos 4713) in
    let day : days_from_civil year 11 24 ≡ neg_ℤ (pos 2440588) = omega (arith, signed_arith, days_from_civil-day_count year 11 24, day_count-late year 5287 11 24 refl (omega arith) (omega arith) (omega arith)) in
    text_of_date FIRST_TIME year 11 24 (time FIRST_TIME (omega (arith, signed_arith)) (omega (arith, signed_arith))) (search rules) day

pub last : time_text LAST_TIME ≡ codes "8977-06-07T12:00:00"
last =
    let year = pos 8977 in
    let day : days_from_civil year 6 7 ≡ pos 2559412 = omega (arith, signed_arith, days_from_civil-day_count year 6 7, day_count-late year 18977 6 7 refl (omega arith) (omega arith) (omega arith)) in
    text_of_date LAST_TIME year 6 7 (time LAST_TIME (omega (arith, signed_arith)) (omega (arith, signed_arith))) (search rules) day
