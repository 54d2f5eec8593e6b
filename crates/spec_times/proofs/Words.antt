-- What a word that is read as a time looks like: it is a whole number, or the text of the time.
use Rattle.std.proofs.Common.{◌≡◌, ◌⊎◌, inl, inr, ◌||◌, nat_lt, int_le, int_lt, Option, None, Some, Ok, ℕ, zero, suc, drop, ◌+ℤ◌, ◌+◌, ◌/◌, ◌%◌, ◌<◌, ◌≤◌, ◌==◌, ◌&&◌, true, false, List, [], ◌∷◌, ◌++◌, refl, sym, ap, ◌∙◌, arith, ℤ, pos, neg_ℤ}
use Rattle.std.specs.Char.{is_ascii_digit}
use Rattle.std.specs.Prelude.{codes}
use Rattle.std.proofs.lemmas.Bool.{cases_Bool, eqb-true, ltb-true, or_parts}
use Rattle.std.proofs.lemmas.Bool.Decides.{nat_tests}
use Rattle.spec_numbers.proofs.Booleans.{both_first, both_second}
use Rattle.spec_text.specs.Decimals.{value}
use Rattle.spec_ephemeris.specs.declared.limits.TheConstants.{FIRST_TIME, LAST_TIME}
use Rattle.spec_times.specs.declared.limits.TheConstants.{FIRST_YEAR, LAST_YEAR}
use Rattle.spec_times.specs.declared.calendar.CalendarTime.{CalendarTime}
use Rattle.jiff_core.specs.Calendar.{days_from_civil, IsCivilDate, IsYear}
use Rattle.jiff_core.proofs.SignedLemmas.{signed_arith}
use Rattle.spec_times.specs.Calendar.{calendar_text, clock, date_text, day_number, digits, is_calendar_time, midnight, second_of_day, time_of_calendar, time_of_day_text, time_text, year_text}
use Rattle.spec_times.proofs.Times.{text_of_date, parts_of, clock_is}
use Rattle.spec_times.specs.TimeWords.{IsTime, has_negative_year, shown, time_of, time_shown, whole_time, within_limits, calendar_after, has_form, negative_year_digits, negative_year_form, year_digits, year_form}

-- a word that goes on with some digits, and what is behind them
pub record Digits2 (picture word : List ℕ) : Type 0 where
  pub a : ℕ
  pub b : ℕ
  pub rest : List ℕ
  pub word_is : word ≡ a ∷ b ∷ rest
  pub a_is : a ≡ 48 + value (a ∷ b ∷ []) / 10 % 10
  pub b_is : b ≡ 48 + value (a ∷ b ∷ []) % 10
  pub a_low : 48 ≤ a
  pub a_high : a ≤ 57
  pub b_low : 48 ≤ b
  pub b_high : b ≤ 57
  pub form : has_form picture rest ≡ true

digit_low : (a : ℕ) → is_ascii_digit a ≡ true → 48 ≤ a
digit_low a h = grind (arith, nat_tests)

digit_high : (a : ℕ) → is_ascii_digit a ≡ true → a ≤ 57
digit_high a h = grind (arith, nat_tests)

two_read : (picture word : List ℕ) → has_form (48 ∷ 48 ∷ picture) word ≡ true → Digits2 picture word
two_read picture [] h = absurd (cc)
two_read picture (a ∷ []) h = absurd (false_true (both_second (is_ascii_digit a) false h))
  where
    false_true : false ≡ true → ⊥
    false_true e = absurd (cc)
two_read picture (a ∷ b ∷ rest) h =
    let first = both_first (is_ascii_digit a) _ h in
    let more = both_second (is_ascii_digit a) (is_ascii_digit b && has_form picture rest) h in
    let second = both_first (is_ascii_digit b) _ more in
    let low = digit_low a first in
    let high = digit_high a first in
    let low2 = digit_low b second in
    let high2 = digit_high b second in
    record { a = a; b = b; rest = rest; word_is = refl; a_is = omega arith; b_is = omega arith; a_low = low; a_high = high; b_low = low2; b_high = high2; form = both_second (is_ascii_digit b) (has_form picture rest) more }

pub record Mark (m : ℕ) (picture word : List ℕ) : Type 0 where
  pub rest : List ℕ
  pub word_is : word ≡ m ∷ rest
  pub form : has_form picture rest ≡ true

dash_read : (picture word : List ℕ) → has_form (45 ∷ picture) word ≡ true → Mark 45 picture word
dash_read picture [] h = absurd (cc)
dash_read picture (b ∷ rest) h = record { rest = rest; word_is = ap (λ (k : ℕ). k ∷ rest) (sym (eqb-true 45 b (both_first (45 == b) _ h))); form = both_second (45 == b) (has_form picture rest) h }

letter_read : (picture word : List ℕ) → has_form (84 ∷ picture) word ≡ true → Mark 84 picture word
letter_read picture [] h = absurd (cc)
letter_read picture (b ∷ rest) h = record { rest = rest; word_is = ap (λ (k : ℕ). k ∷ rest) (sym (eqb-true 84 b (both_first (84 == b) _ h))); form = both_second (84 == b) (has_form picture rest) h }

colon_read : (picture word : List ℕ) → has_form (58 ∷ picture) word ≡ true → Mark 58 picture word
colon_read picture [] h = absurd (cc)
colon_read picture (b ∷ rest) h = record { rest = rest; word_is = ap (λ (k : ℕ). k ∷ rest) (sym (eqb-true 58 b (both_first (58 == b) _ h))); form = both_second (58 == b) (has_form picture rest) h }

nothing_left : (word : List ℕ) → has_form [] word ≡ true → word ≡ []
nothing_left [] h = refl
nothing_left (b ∷ word) h = absurd (cc)

-- the text of what follows a year
abbrev rest_text : ℤ → List ℕ → List ℕ
rest_text year word = let c = calendar_after year word in (45 ∷ digits 2 c.month) ++ (45 ∷ digits 2 c.day) ++ ((84 ∷ digits 2 c.hour) ++ (58 ∷ digits 2 c.minute) ++ (58 ∷ digits 2 c.second))

rest_read : (year : ℤ) (word : List ℕ) → has_form (codes "-00-00T00:00:00") word ≡ true → word ≡ rest_text year word
rest_read year word h =
    let m1 = dash_read (codes "00-00T00:00:00") word h in
    let n1 = two_read (codes "-00T00:00:00") m1.rest m1.form in
    let m2 = dash_read (codes "00T00:00:00") n1.rest n1.form in
    let n2 = two_read (codes "T00:00:00") m2.rest m2.form in
    let m3 = letter_read (codes "00:00:00") n2.rest n2.form in
    let n3 = two_read (codes ":00:00") m3.rest m3.form in
    let m4 = colon_read (codes "00:00") n3.rest n3.form in
    let n4 = two_read (codes ":00") m4.rest m4.form in
    let m5 = colon_read (codes "00") n4.rest n4.form in
    let n5 = two_read (codes "") m5.rest m5.form in
    let end = nothing_left n5.rest n5.form in
    let w5 : n4.rest ≡ 58 ∷ n5.a ∷ n5.b ∷ [] = m5.word_is ∙ (λ i. 58 ∷ n5.word_is i) ∙ (λ i. 58 ∷ n5.a ∷ n5.b ∷ end i) in
    let w4 : n3.rest ≡ 58 ∷ n4.a ∷ n4.b ∷ 58 ∷ n5.a ∷ n5.b ∷ [] = m4.word_is ∙ (λ i. 58 ∷ n4.word_is i) ∙ (λ i. 58 ∷ n4.a ∷ n4.b ∷ w5 i) in
    let w3 : n2.rest ≡ 84 ∷ n3.a ∷ n3.b ∷ 58 ∷ n4.a ∷ n4.b ∷ 58 ∷ n5.a ∷ n5.b ∷ [] = m3.word_is ∙ (λ i. 84 ∷ n3.word_is i) ∙ (λ i. 84 ∷ n3.a ∷ n3.b ∷ w4 i) in
    let w2 : n1.rest ≡ 45 ∷ n2.a ∷ n2.b ∷ 84 ∷ n3.a ∷ n3.b ∷ 58 ∷ n4.a ∷ n4.b ∷ 58 ∷ n5.a ∷ n5.b ∷ [] = m2.word_is ∙ (λ i. 45 ∷ n2.word_is i) ∙ (λ i. 45 ∷ n2.a ∷ n2.b ∷ w3 i) in
    let w1 : word ≡ 45 ∷ n1.a ∷ n1.b ∷ 45 ∷ n2.a ∷ n2.b ∷ 84 ∷ n3.a ∷ n3.b ∷ 58 ∷ n4.a ∷ n4.b ∷ 58 ∷ n5.a ∷ n5.b ∷ [] = m1.word_is ∙ (λ i. 45 ∷ n1.word_is i) ∙ (λ i. 45 ∷ n1.a ∷ n1.b ∷ w2 i) in
    let text : (45 ∷ n1.a ∷ n1.b ∷ 45 ∷ n2.a ∷ n2.b ∷ 84 ∷ n3.a ∷ n3.b ∷ 58 ∷ n4.a ∷ n4.b ∷ 58 ∷ n5.a ∷ n5.b ∷ []) ≡ rest_text year (45 ∷ n1.a ∷ n1.b ∷ 45 ∷ n2.a ∷ n2.b ∷ 84 ∷ n3.a ∷ n3.b ∷ 58 ∷ n4.a ∷ n4.b ∷ 58 ∷ n5.a ∷ n5.b ∷ []) = λ i. 45 ∷ n1.a_is i ∷ n1.b_is i ∷ 45 ∷ n2.a_is i ∷ n2.b_is i ∷ 84 ∷ n3.a_is i ∷ n3.b_is i ∷ 58 ∷ n4.a_is i ∷ n4.b_is i ∷ 58 ∷ n5.a_is i ∷ n5.b_is i ∷ [] in
    w1 ∙ text ∙ ap (λ (w : List ℕ). rest_text year w) (sym w1)

-- ---- the whole word

abbrev year_shown : List ℕ → CalendarTime
year_shown word = calendar_after (pos (year_digits word)) (drop 4 word)

year_read : (word : List ℕ) → has_form year_form word ≡ true → word ≡ calendar_text (year_shown word)
year_read word h =
    let n1 = two_read (codes "00-00-00T00:00:00") word h in
    let n2 = two_read (codes "-00-00T00:00:00") n1.rest n1.form in
    let v = value (n1.a ∷ n1.b ∷ n2.a ∷ n2.b ∷ []) in
    let whole : word ≡ n1.a ∷ n1.b ∷ n2.a ∷ n2.b ∷ n2.rest = n1.word_is ∙ (λ i. n1.a ∷ n1.b ∷ n2.word_is i) in
    let rest = rest_read (pos v) n2.rest n2.form in
    let k1 : n1.a ≡ 48 + v / 10 / 10 / 10 % 10 = omega (arith, n1.a_low, n1.a_high, n1.b_low, n1.b_high, n2.a_low, n2.a_high, n2.b_low, n2.b_high) in
    let k2 : n1.b ≡ 48 + v / 10 / 10 % 10 = omega (arith, n1.a_low, n1.a_high, n1.b_low, n1.b_high, n2.a_low, n2.a_high, n2.b_low, n2.b_high) in
    let k3 : n2.a ≡ 48 + v / 10 % 10 = omega (arith, n1.a_low, n1.a_high, n1.b_low, n1.b_high, n2.a_low, n2.a_high, n2.b_low, n2.b_high) in
    let k4 : n2.b ≡ 48 + v % 10 = omega (arith, n1.a_low, n1.a_high, n1.b_low, n1.b_high, n2.a_low, n2.a_high, n2.b_low, n2.b_high) in
    let text : (n1.a ∷ n1.b ∷ n2.a ∷ n2.b ∷ n2.rest) ≡ calendar_text (year_shown (n1.a ∷ n1.b ∷ n2.a ∷ n2.b ∷ n2.rest)) = λ i. k1 i ∷ k2 i ∷ k3 i ∷ k4 i ∷ rest i in
    whole ∙ text ∙ ap (λ (w : List ℕ). calendar_text (year_shown w)) (sym whole)

abbrev negative_year_shown : List ℕ → CalendarTime
negative_year_shown word = calendar_after (neg_ℤ (pos (negative_year_digits word))) (drop 7 word)

negative_year_text : (v : ℕ) → 0 < v → year_text (neg_ℤ (pos v)) ≡ 45 ∷ digits 6 v
negative_year_text zero h = absurd (omega arith)
negative_year_text (suc n) h = refl

negative_year_read : (word : List ℕ) → has_form negative_year_form word ≡ true → 0 < negative_year_digits word → word ≡ calendar_text (negative_year_shown word)
negative_year_read word h some =
    let m = dash_read (codes "000000-00-00T00:00:00") word h in
    let n1 = two_read (codes "0000-00-00T00:00:00") m.rest m.form in
    let n2 = two_read (codes "00-00-00T00:00:00") n1.rest n1.form in
    let n3 = two_read (codes "-00-00T00:00:00") n2.rest n2.form in
    let v = value (n1.a ∷ n1.b ∷ n2.a ∷ n2.b ∷ n3.a ∷ n3.b ∷ []) in
    let whole : word ≡ 45 ∷ n1.a ∷ n1.b ∷ n2.a ∷ n2.b ∷ n3.a ∷ n3.b ∷ n3.rest = m.word_is ∙ (λ i. 45 ∷ n1.word_is i) ∙ (λ i. 45 ∷ n1.a ∷ n1.b ∷ n2.word_is i) ∙ (λ i. 45 ∷ n1.a ∷ n1.b ∷ n2.a ∷ n2.b ∷ n3.word_is i) in
    let positive : 0 < v = rw whole at some in
    let rest = rest_read (neg_ℤ (pos v)) n3.rest n3.form in
    let k1 : n1.a ≡ 48 + v / 10 / 10 / 10 / 10 / 10 % 10 = omega (arith, n1.a_low, n1.a_high, n1.b_low, n1.b_high, n2.a_low, n2.a_high, n2.b_low, n2.b_high, n3.a_low, n3.a_high, n3.b_low, n3.b_high) in
    let k2 : n1.b ≡ 48 + v / 10 / 10 / 10 / 10 % 10 = omega (arith, n1.a_low, n1.a_high, n1.b_low, n1.b_high, n2.a_low, n2.a_high, n2.b_low, n2.b_high, n3.a_low, n3.a_high, n3.b_low, n3.b_high) in
    let k3 : n2.a ≡ 48 + v / 10 / 10 / 10 % 10 = omega (arith, n1.a_low, n1.a_high, n1.b_low, n1.b_high, n2.a_low, n2.a_high, n2.b_low, n2.b_high, n3.a_low, n3.a_high, n3.b_low, n3.b_high) in
    let k4 : n2.b ≡ 48 + v / 10 / 10 % 10 = omega (arith, n1.a_low, n1.a_high, n1.b_low, n1.b_high, n2.a_low, n2.a_high, n2.b_low, n2.b_high, n3.a_low, n3.a_high, n3.b_low, n3.b_high) in
    let k5 : n3.a ≡ 48 + v / 10 % 10 = omega (arith, n1.a_low, n1.a_high, n1.b_low, n1.b_high, n2.a_low, n2.a_high, n2.b_low, n2.b_high, n3.a_low, n3.a_high, n3.b_low, n3.b_high) in
    let k6 : n3.b ≡ 48 + v % 10 = omega (arith, n1.a_low, n1.a_high, n1.b_low, n1.b_high, n2.a_low, n2.a_high, n2.b_low, n2.b_high, n3.a_low, n3.a_high, n3.b_low, n3.b_high) in
    let c = calendar_after (neg_ℤ (pos v)) n3.rest in
    let year = negative_year_text v positive in
    let text : (45 ∷ n1.a ∷ n1.b ∷ n2.a ∷ n2.b ∷ n3.a ∷ n3.b ∷ n3.rest) ≡ calendar_text c =
    (λ i. 45 ∷ k1 i ∷ k2 i ∷ k3 i ∷ k4 i ∷ k5 i ∷ k6 i ∷ rest i)
    ∙ (λ i. sym year i ++ (45 ∷ digits 2 c.month) ++ (45 ∷ digits 2 c.day) ++ ((84 ∷ digits 2 c.hour) ++ (58 ∷ digits 2 c.minute) ++ (58 ∷ digits 2 c.second))) in
    whole ∙ text ∙ ap (λ (w : List ℕ). calendar_text (negative_year_shown w)) (sym whole)

-- ---- the time of the text

clock_of : (day : ℤ) (s : ℕ) → s < 86400 → clock (midnight day +ℤ pos s) ≡ s
clock_of day s h =
    let t = midnight day +ℤ pos s in
    omega (arith, signed_arith, parts_of (t +ℤ pos 43200), clock_is (t +ℤ pos 43200), h)

text_shown : (c : CalendarTime) → is_calendar_time c ≡ true → IsYear c.year → IsTime (time_of_calendar c) → calendar_text c ≡ time_text (time_of_calendar c)
text_shown c is known within =
    let hour : c.hour < 24 = grind (arith, nat_tests) in
    let minute : c.minute < 60 = grind (arith, nat_tests) in
    let second : c.second < 60 = grind (arith, nat_tests) in
    let civil : IsCivilDate c.year c.month c.day = (known, (grind (arith, nat_tests), grind (arith, nat_tests)), (grind (arith, nat_tests), grind (arith, nat_tests))) in
    let t = time_of_calendar c in
    let day : days_from_civil c.year c.month c.day ≡ day_number t = omega (arith, signed_arith) in
    let left : clock t ≡ second_of_day c = clock_of (days_from_civil c.year c.month c.day) (second_of_day c) (omega arith) in
    let h : c.hour ≡ clock t / 3600 = omega (arith, left) in
    let m : c.minute ≡ clock t / 60 % 60 = omega (arith, left) in
    let s : c.second ≡ clock t % 60 = omega (arith, left) in
    (λ i. date_text c.year c.month c.day ++ time_of_day_text (h i) (m i) (s i)) ∙ sym (text_of_date t c.year c.month c.day within civil day)

-- ---- what is read as a time

pub within_is : (t time : ℤ) → within_limits t ≡ Ok time → (t ≡ time) × IsTime t
within_is t time h = elim (cases_Bool (int_le FIRST_TIME t && int_le t LAST_TIME)) [
  | inl holds ↦
      let low = both_first (int_le FIRST_TIME t) (int_le t LAST_TIME) holds in
      let high = both_second (int_le FIRST_TIME t) (int_le t LAST_TIME) holds in
      let same = rw holds at h in
      (cc, record { low = omega (arith, signed_arith); high = omega (arith, signed_arith) })
  | inr out ↦ let other = rw out at h in absurd (cc)
]

calendar_is_text : (c : CalendarTime) (time : ℤ) → time_shown (Some c) ≡ Ok time → calendar_text c ≡ time_text time
calendar_is_text c time h = elim (cases_Bool (is_calendar_time c)) [
  | inr out ↦ let other = rw out at h in absurd (cc)
  | inl is ↦ let within = rw is at h in elim (cases_Bool (int_lt c.year FIRST_YEAR || int_lt LAST_YEAR c.year)) [
    | inl far ↦ let other = rw far at within in absurd (cc)
    | inr near ↦
        let years = or_parts (int_lt c.year FIRST_YEAR) (int_lt LAST_YEAR c.year) near in
        let early = years.0 in
        let late = years.1 in
        let answer = within_is (time_of_calendar c) time (rw near at within) in
        let known : IsYear c.year = (omega (arith, signed_arith), omega (arith, signed_arith)) in
        text_shown c is known answer.1 ∙ ap (λ (t : ℤ). time_text t) answer.0
  ]
]

shown_is_text : (word : List ℕ) (time : ℤ) → time_shown (shown word) ≡ Ok time → word ≡ time_text time
shown_is_text word time h = elim (cases_Bool (has_form year_form word)) [
  | inl is ↦ year_read word is ∙ calendar_is_text (year_shown word) time (rw is at h)
  | inr other ↦ let more = rw other at h in elim (cases_Bool (has_negative_year word)) [
    | inl is ↦
        let form = both_first (has_form negative_year_form word) (nat_lt 0 (negative_year_digits word)) is in
        let some = ltb-true 0 (negative_year_digits word) (both_second (has_form negative_year_form word) (nat_lt 0 (negative_year_digits word)) is) in
        negative_year_read word form some ∙ calendar_is_text (negative_year_shown word) time (rw is at more)
    | inr none ↦ let last = rw none at more in absurd (cc)
  ]
]

pub read_words : (word : List ℕ) (time : ℤ) → time_of word ≡ Ok time → (whole_time word ≡ Some time) ⊎ (word ≡ time_text time)
unfolding time_of
read_words word time h = go (whole_time word) refl
  where
    go : (x : Option ℤ) → whole_time word ≡ x → (whole_time word ≡ Some time) ⊎ (word ≡ time_text time)
    go None e = inr (shown_is_text word time (rw e at h))
    go (Some t) e = inl (e ∙ ap (λ (z : ℤ). Some z) (within_is t time (rw e at h)).0)
