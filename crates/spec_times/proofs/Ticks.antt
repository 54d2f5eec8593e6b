-- The text of a time in ticks is read as the time, and where a tick is a second the texts and words are those of seconds.
use Rattle.std.proofs.Common.{◌≡◌, ◌*◌, ◌++◌, ℕ, ◌+◌, ◌-◌, ◌/◌, ◌<◌, ◌≤◌, ◌==◌, ◌&&◌, Bool, true, false, int_le, List, [], ◌∷◌, length, take, drop, Option, None, Some, Result, Ok, Err, inl, inr, refl, sym, ap, subst, ◌∙◌, arith, ℤ, pos, negsuc, ◌+ℤ◌, ◌*ℤ◌, int_lt, ◌||◌, unsigned_abs}
use Rattle.std.specs.Prelude.{if◌then◌else◌, codes}
use Rattle.std.specs.Char.{is_ascii_digit}
use Rattle.std.specs.List.{list_all}
use Rattle.std.proofs.lemmas.Int.{ints}
use Rattle.std.proofs.lemmas.Bool.{cases_Bool}
use Rattle.std.proofs.lemmas.Bool.Decides.{nat_tests}
use Rattle.std.proofs.lemmas.List.{append-nil, length-append}
use Rattle.std.proofs.lemmas.Nat.{div_below}
use Rattle.std.proofs.Math.Seq.{take-append_seam, drop-append_seam}
use Rattle.std.specs.Int.{int_div_euclid, int_rem_euclid}
use Rattle.jiff_core.proofs.SignedLemmas.{signed_arith}
use Rattle.spec_numbers.proofs.Integers.{times_one}
use Rattle.spec_text.specs.Decimals.{value}
use Rattle.spec_ephemeris.specs.declared.limits.TheConstants.{FIRST_TIME, LAST_TIME}
use Rattle.spec_ephemeris.specs.Ticks.{IsTick}
use Rattle.spec_times.specs.Calendar.{calendar_text, calendar_time, digits, is_between, is_calendar_time, time_of_calendar, time_text}
use Rattle.spec_times.specs.TimeWords.{IsTime, are_time_digits, has_form, negated_of, shown, time_of, time_or_shown, time_shown, time_within, whole_of, whole_time, within_limits}
use Rattle.spec_times.specs.declared.calendar.CalendarTime.{CalendarTime}
use Rattle.spec_times.specs.declared.faults.TimeFault.{TimeFault}
use Rattle.spec_times.specs.Ticks.{IsTimeIn, before_fraction, ending, has_fraction, past_second, second_of, tick_text, tick_from, tick_of, tick_or_shown, within_tick_limits}
use Rattle.spec_times.specs.declared.limits.TheConstants.{FIRST_YEAR, LAST_YEAR}
use Rattle.spec_times.proofs.Texts.{digit}
use Rattle.spec_times.proofs.Times.{text_is_read, time_within_limits}
use Rattle.spec_times.proofs.Words.{within_is}

-- ---- long words are no whole numbers
not_so_long : (n : ℕ) → 12 < n → is_between 1 12 n ≡ false
not_so_long n h = grind (arith, nat_tests)

no_digits : (word : List ℕ) → 12 < length word → are_time_digits word ≡ false
no_digits word h = by (list_all is_ascii_digit word) (is_between 1 12 (length word)) (not_so_long (length word) h)
  where
    by : (a b : Bool) → b ≡ false → (a && b) ≡ false
    by true b e = e
    by false b e = refl

no_whole : (word : List ℕ) → 13 < length word → whole_time word ≡ None
no_whole [] h = refl
no_whole (b ∷ word) h = by (b == 45)
  where
    by : (minus : Bool) → (if minus then negated_of word else whole_of (b ∷ word)) ≡ None
    by true = rw (no_digits word (omega (arith, h))) refl
    by false = rw (no_digits (b ∷ word) (omega (arith, h))) refl

year_long : (c : CalendarTime) → 19 ≤ length (calendar_text c)
year_long c = by c.year refl
  where
    by : (y : ℤ) → c.year ≡ y → 19 ≤ length (calendar_text c)
    by (pos n) e = rw e (omega arith)
    by (negsuc n) e = rw e (omega arith)

text_long : (time : ℤ) → 19 ≤ length (time_text time)
unfolding time_text
text_long time = year_long (calendar_time time)

-- the text of a second shows it
pub shown_second : (time : ℤ) → IsTime time → time_shown (shown (time_text time)) ≡ Ok time
unfolding time_of
shown_second time is =
    let long = text_long time in
    sym (ap (time_or_shown (time_text time)) (no_whole (time_text time) (omega (arith, long)))) ∙ text_is_read time is

-- ---- parts of a time
three : (n : ℕ) → n < 1000 → value (digits 3 n) ≡ n
three n h = omega arith

past_few : (z : ℤ) → unsigned_abs (int_rem_euclid z (pos 1000)) < 1000
past_few (pos n) = omega arith
past_few (negsuc n) = omega arith

parts : (z : ℤ) → int_div_euclid z (pos 1000) *ℤ pos 1000 +ℤ pos (unsigned_abs (int_rem_euclid z (pos 1000))) ≡ z
parts (pos n) = omega (arith, signed_arith)
parts (negsuc n) = omega (arith, signed_arith)

second_is : (t : ℤ) → IsTimeIn 1000 t → IsTime (second_of 1000 t)
second_is t is =
    let whole = parts t in
    let few = past_few t in
    let low = is.low in
    let high = is.high in
    record { low = omega (arith, signed_arith, whole, few, low); high = omega (arith, signed_arith, whole, few, high) }

within : (tick : ℕ) (t : ℤ) → IsTimeIn tick t → within_tick_limits tick t ≡ Ok t
within tick t is =
    let late : true ≡ int_le (FIRST_TIME *ℤ pos tick) t = omega (arith, ints, is.low) in
    let early : true ≡ int_le t (LAST_TIME *ℤ pos tick) = omega (arith, ints, is.high) in
    rw (sym late, sym early) refl

-- ---- a text with its fraction
fraction_fits : (n : ℕ) → has_form (codes ".000") (46 ∷ digits 3 n) ≡ true
fraction_fits n = rw (digit (n / 10 / 10), digit (n / 10), digit n) refl

module _ (front back : List ℕ) (four : length back ≡ 4) where
  same_length : length (front ++ back) - 4 ≡ length front
  same_length = let whole = length-append front back in omega (arith, whole, four)

  ends_so : ending (front ++ back) ≡ back
  ends_so = ap (λ n. drop n (front ++ back)) same_length ∙ drop-append_seam front back

  begins_so : before_fraction (front ++ back) ≡ front
  begins_so = ap (λ n. take n (front ++ back)) same_length ∙ take-append_seam front back

pub thousands_are_read : (t : ℤ) → IsTimeIn 1000 t → tick_of 1000 (tick_text 1000 t) ≡ Ok t
unfolding tick_of tick_text
thousands_are_read t is =
    ap (tick_or_shown 1000 word) (no_whole word (omega (arith, long, whole_length)))
    ∙ (ap (λ (b : Bool). if b then tick_from 1000 (value (drop 1 (ending word))) (time_shown (shown (before_fraction word))) else tick_from 1000 0 (time_shown (shown word))) fits
    ∙ ((λ i. tick_from 1000 (value (drop 1 (ends i))) (time_shown (shown (begins i))))
    ∙ ((λ i. tick_from 1000 (three n (past_few t) i) (shown_second (second_of 1000 t) (second_is t is) i))
    ∙ (ap (within_tick_limits 1000) (parts t) ∙ within 1000 t is))))
  where
    n : ℕ
    n = past_second 1000 t

    front : List ℕ
    front = time_text (second_of 1000 t)

    word : List ℕ
    word = front ++ 46 ∷ digits 3 n

    long : 19 ≤ length front
    long = text_long (second_of 1000 t)

    whole_length : length word ≡ length front + 4
    whole_length = length-append front (46 ∷ digits 3 n)

    ends : ending word ≡ 46 ∷ digits 3 n
    ends = ends_so front (46 ∷ digits 3 n) refl

    begins : before_fraction word ≡ front
    begins = begins_so front (46 ∷ digits 3 n) refl

    fits : has_fraction word ≡ true
    fits = ap (has_form (codes ".000")) ends ∙ fraction_fits n

-- ---- a tick that is a second
one_second : (t : ℤ) → int_div_euclid t (pos 1) ≡ t
one_second (pos n) = omega (arith, signed_arith)
one_second (negsuc n) = omega (arith, signed_arith)

pub text_of_second : (t : ℤ) → tick_text 1 t ≡ time_text t
unfolding tick_text
text_of_second t = append-nil (time_text (int_div_euclid t (pos 1))) ∙ ap time_text (one_second t)

time_is_within : (c : CalendarTime) (time : ℤ) → time_within c ≡ Ok time → IsTime time
time_is_within c time h = elim (cases_Bool (int_lt c.year FIRST_YEAR || int_lt LAST_YEAR c.year)) [
  | inl far ↦ let other = rw far at h in absurd (cc)
  | inr near ↦ let answer = within_is (time_of_calendar c) time (rw near at h) in subst IsTime answer.0 answer.1
]

pub shown_is_within : (o : Option CalendarTime) (time : ℤ) → time_shown o ≡ Ok time → IsTime time
shown_is_within None time h = absurd (cc)
shown_is_within (Some c) time h = elim (cases_Bool (is_calendar_time c)) [
  | inl is ↦ time_is_within c time (rw is at h)
  | inr out ↦ let other = rw out at h in absurd (cc)
]

and_none : (t : ℤ) → t *ℤ pos 1 +ℤ pos 0 ≡ t
and_none t = omega (arith, signed_arith)

pub word_of_second : (word : List ℕ) → tick_of 1 word ≡ time_of word
unfolding tick_of time_of
word_of_second word = by (whole_time word)
  where
    by_shown : (r : Result ℤ TimeFault) → time_shown (shown word) ≡ r → tick_from 1 0 r ≡ r
    by_shown (Err fault) is = refl
    by_shown (Ok time) is = ap within_limits (and_none time) ∙ time_within_limits time (shown_is_within (shown word) time is)

    by : (o : Option ℤ) → tick_or_shown 1 word o ≡ time_or_shown word o
    by None = by_shown (time_shown (shown word)) refl
    by (Some second) = ap within_limits (times_one second)

-- ---- the second of a time in ticks
pub second_within : (k : ℕ) (t : ℤ) → IsTick k → IsTimeIn k t → IsTime (second_of k t)
second_within k (pos n) tick is =
    let high = is.high in
    let few : n < 220186512001 * k = omega (arith, signed_arith, tick.some, high) in
    let below = div_below n k 220186512001 tick.some few in
    record { low = omega (arith, signed_arith); high = omega (arith, signed_arith, below) }
second_within k (negsuc n) tick is =
    let low = is.low in
    let few : n < 211813488000 * k = omega (arith, signed_arith, low) in
    let below = div_below n k 211813488000 tick.some few in
    record { low = omega (arith, signed_arith, below); high = omega (arith, signed_arith) }
