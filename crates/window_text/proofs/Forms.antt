-- Words that look as a picture does.
use Rattle.std.proofs.Common.{◌≡◌, ◌==◌, ℕ, suc, ◌+◌, ◌-◌, ◌^◌, ◌-ℤ◌, pos, neg_ℤ, ◌<◌, ◌≤◌, ◌&&◌, take, Bool, true, false, List, [], ◌∷◌, codes, length, drop, get_or, refl, sym, ap, ◌∙◌, arith, to_z, of_z, w64, Option, Some, None, if◌then◌else◌}
use Rattle.std.proofs.lemmas.List.{length-drop, take_all}
use Rattle.std.proofs.Math.Seq.{drop-cons, drop-length}
use Rattle.std.proofs.lemmas.Int.{ints, to_z_pos}
use Rattle.spec_text.specs.Decimals.{value}
use Rattle.spec_times.specs.declared.calendar.CalendarTime.{CalendarTime}
use Rattle.spec_numbers.proofs.Booleans.{both_first}
use Rattle.spec_times.specs.TimeWords.{calendar_after, fits, has_form, has_negative_year, negative_year_digits, negative_year_form, shown, time_shown, year_digits, year_form}
use Rattle.spec_times.specs.Ticks.{before_fraction, ending, has_fraction, shown_tick, tick_from}

pub length_of_form : (picture word : List ℕ) → has_form picture word ≡ true → length picture ≡ length word
length_of_form [] [] h = refl
length_of_form [] (b ∷ word) h = absurd (cc)
length_of_form (m ∷ picture) [] h = absurd (cc)
length_of_form (m ∷ picture) (b ∷ word) h = ap suc (length_of_form picture word (second (fits m b) (has_form picture word) h))
  where
    second : (x y : Bool) → (x && y) ≡ true → y ≡ true
    second true y e = e
    second false y e = absurd (cc)

pub other_length : (picture word : List ℕ) → (length picture ≡ length word → ⊥) → has_form picture word ≡ false
other_length picture word apart = go (has_form picture word) refl
  where
    go : (b : Bool) → has_form picture word ≡ b → has_form picture word ≡ false
    go true e = absurd (apart (length_of_form picture word e))
    go false e = e

-- one place further
pub form_at : (picture word : List ℕ) (i : ℕ) → i < length picture → i < length word
    → has_form (drop i picture) (drop i word) ≡ (fits (get_or picture i 0) (get_or word i 0) && has_form (drop (i + 1) picture) (drop (i + 1) word))
form_at picture word i h k =
    let next : suc i ≡ i + 1 = omega arith in
    rw (← next) (λ j. has_form (drop-cons picture i 0 h j) (drop-cons word i 0 k j))

pub form_at_end : (picture word : List ℕ) (i : ℕ) → i ≡ length picture → length picture ≡ length word → has_form (drop i picture) (drop i word) ≡ true
form_at_end picture word i e same =
    let one : drop i picture ≡ [] = rw e (drop-length picture) in
    let other : drop i word ≡ [] = rw (e ∙ same) (drop-length word) in
    λ j. has_form (one j) (other j)

-- ---- how long a word is that has a form

pub has_year : (word picture : List ℕ) (b : Bool) → picture ≡ year_form → b ≡ has_form picture word → has_form year_form word ≡ b
has_year word picture b p is = (λ i. has_form (sym p i) word) ∙ sym is

pub length_of_year : (word picture : List ℕ) (b : Bool) → picture ≡ year_form → b ≡ has_form picture word → b ≡ true → length word ≡ 19
length_of_year word picture b p is holds = sym (length_of_form year_form word (has_year word picture b p is ∙ holds))

pub length_of_negative_year : (word : List ℕ) (b : Bool) → b ≡ has_negative_year word → b ≡ true → length word ≡ 22
length_of_negative_year word b is holds = sym (length_of_form negative_year_form word (both_first (has_form negative_year_form word) _ (sym is ∙ holds)))

pub length_of_fraction : (word : List ℕ) (b : Bool) → b ≡ has_fraction word → b ≡ true → 4 ≤ length word
length_of_fraction word b is holds =
    let four : 4 ≡ length (ending word) = length_of_form (codes ".000") (ending word) (sym is ∙ holds) in
    omega (arith, four, length-drop (length word - 4) word)

-- ---- what a word shows, as the code takes it apart

-- the rest of a word from a place on
pub rest_is : (word : List ℕ) (k : ℕ) → take (length word - k) (drop k word) ≡ drop k word
rest_is word k = take_all (length word - k) (drop k word) (omega (arith, length-drop k word))

module _ (word : List ℕ) where
  -- by whether it has the one form, and whether it has the other
  unfoldable by_forms : Bool → Bool → Option CalendarTime
  by_forms dated negative = if dated then Some (calendar_after (pos (year_digits word)) (drop 4 word)) else (if negative then Some (calendar_after (neg_ℤ (pos (negative_year_digits word))) (drop 7 word)) else None)

  -- its fields, by the digits of the year
  pub fields_of_year : (c : CalendarTime) (n : ℕ) → n < 10 ^ 14 → n ≡ year_digits word → c ≡ calendar_after (to_z w64 n) (take (length word - 4) (drop 4 word))
      → c ≡ calendar_after (pos (year_digits word)) (drop 4 word)
  fields_of_year c n small digits is = is ∙ λ i. calendar_after ((to_z_pos w64 n (omega (arith, small)) ∙ ap pos digits) i) (rest_is word 4 i)

  pub fields_of_negative_year : (c : CalendarTime) (n : ℕ) → n < 10 ^ 14 → n ≡ negative_year_digits word
      → c ≡ calendar_after (to_z w64 (of_z w64 (pos 0 -ℤ to_z w64 n))) (take (length word - 7) (drop 7 word)) → c ≡ calendar_after (neg_ℤ (pos (negative_year_digits word))) (drop 7 word)
  fields_of_negative_year c n small digits is =
      let turned : to_z w64 (of_z w64 (pos 0 -ℤ to_z w64 n)) ≡ neg_ℤ (pos n) = rw (to_z_pos w64 n (omega (arith, small))) (omega (arith, ints, small)) in
      is ∙ λ i. calendar_after ((turned ∙ ap (λ k. neg_ℤ (pos k)) digits) i) (rest_is word 7 i)

  pub shown_year : (c : CalendarTime) → has_form year_form word ≡ true → c ≡ calendar_after (pos (year_digits word)) (drop 4 word) → Some c ≡ shown word
  unfolding by_forms
  shown_year c dated is = ap Some is ∙ λ i. by_forms (sym dated i) (has_negative_year word)

  pub shown_negative_year : (c : CalendarTime) → has_form year_form word ≡ false → has_negative_year word ≡ true
      → c ≡ calendar_after (neg_ℤ (pos (negative_year_digits word))) (drop 7 word) → Some c ≡ shown word
  unfolding by_forms
  shown_negative_year c dated negative is = ap Some is ∙ λ i. by_forms (sym dated i) (sym negative i)

  pub shown_none : has_form year_form word ≡ false → has_negative_year word ≡ false → None ≡ shown word
  unfolding by_forms
  shown_none dated negative = λ i. by_forms (sym dated i) (sym negative i)

-- a word that ends in a point and three digits, where a second has 1,000 ticks
pub with_fraction : (tick : ℕ) (word : List ℕ) → tick ≡ 1000 → has_fraction word ≡ true → tick_from tick (value (drop 1 (ending word))) (time_shown (shown (before_fraction word))) ≡ shown_tick tick word
with_fraction tick word thousand ends =
    λ i. if (sym thousand i == 1000) && sym ends i then tick_from tick (value (drop 1 (ending word))) (time_shown (shown (before_fraction word))) else tick_from tick 0 (time_shown (shown word))
