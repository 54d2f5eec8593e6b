-- One span more after all others.
use Rattle.std.proofs.Common.{◌≡◌, ◌⊎◌, inl, inr, ℕ, zero, suc, ◌-◌, ◌<◌, ◌≤◌, Bool, true, false, ◌&&◌, ◌||◌, int_le, List, [], ◌∷◌, ◌++◌, length, get_or, set, ◌^◌, ℤ, pos, ◌+ℤ◌, ◌-ℤ◌, ◌≤ℤ◌, ◌<ℤ◌, refl, sym, ap, ◌∙◌, subst, to_z, of_z, w64, arith}
use Rattle.std.specs.Prelude.{if◌then◌else◌}
use Rattle.std.proofs.lemmas.Int.{fits_signed_from_abs, ints, to_z-of_z}
use Rattle.std.proofs.lemmas.List.{get_or_read}
use mir.Val.{SFits}
use Rattle.std.proofs.lemmas.Bool.{or_cases, false≢true}
use Rattle.spec_trees.proofs.Sides.{upto_or_after}
use Rattle.spec_sets.specs.Spans.{Span, is_in, has, AreSpansFrom, earliest}
use Rattle.spec_sets.proofs.Members.{inside, has_first, holds_no, in_parts}
use Rattle.spec_sets.specs.Spans.{IsAfterAll}

-- the times of two lists together
pub has_both : (xs ys : List Span) (t : ℤ) → has (xs ++ ys) t ≡ (has xs t || has ys t)
has_both [] ys t = refl
has_both (x ∷ xs) ys t = ap (λ (b : Bool). is_in x t || b) (has_both xs ys t) ∙ assoc (is_in x t) (has xs t) (has ys t)
  where
    assoc : (a b c : Bool) → (a || (b || c)) ≡ ((a || b) || c)
    assoc a b c = grind arith

-- spans that end early enough, and one more
pub one_more : (low : ℤ) (xs : List Span) (s : Span) → AreSpansFrom low xs → low ≤ℤ s.0 → s.0 ≤ℤ s.1 → s.1 ≤ℤ pos (2 ^ 50)
    → ((t : ℤ) → has xs t ≡ true → (t +ℤ pos 2) ≤ℤ s.0) → AreSpansFrom low (xs ++ s ∷ [])
one_more low [] s is from ordered late apart = (from, ordered, late, tt)
one_more low (x ∷ xs) s is from ordered late apart =
    let own = is.1 in
    let ends = apart x.1 (has_first x xs x.1 (inside x x.1 own (omega (arith, ints)))) in (
      is.0,
      is.1,
      is.2,
      one_more (x.1 +ℤ pos 2) xs s is.3 (omega (arith, ints, ends)) ordered late (λ t there. apart t (later x xs t there)),
    )
  where
    later : (x : Span) (xs : List Span) (t : ℤ) → has xs t ≡ true → has (x ∷ xs) t ≡ true
    later x xs t e = by (is_in x t) (has xs t) e
      where
        by : (a b : Bool) → b ≡ true → (a || b) ≡ true
        by true b e = refl
        by false b e = e

-- ---- the last span, and one that goes on from it
module _ (v d : Span) where
  -- the last span made longer
  pub stretched_are : (low : ℤ) (xs : List Span) (i : ℕ) → suc i ≡ length xs → AreSpansFrom low xs → v.0 ≡ (get_or xs i d).0 → (get_or xs i d).1 ≤ℤ v.1 → v.1 ≤ℤ pos (2 ^ 50) → AreSpansFrom low (set xs i v)
  stretched_are low [] i last is begins longer late = absurd (omega (arith, last))
  stretched_are low (x ∷ []) zero last is begins longer late =
      let from = is.0 in
      let ordered = is.1 in
      (omega (arith, ints, begins, from), omega (arith, ints, begins, ordered, longer), late, tt)
  stretched_are low (x ∷ y ∷ ys) zero last is begins longer late = absurd (omega (arith, last))
  stretched_are low (x ∷ xs) (suc i) last is begins longer late = (is.0, is.1, is.2, stretched_are (x.1 +ℤ pos 2) xs i (omega (arith, last)) is.3 begins longer late)

  abbrev beyond : List Span → ℕ → ℤ → Bool
  beyond xs i t = int_le ((get_or xs i d).1 +ℤ pos 1) t && int_le t v.1

  pub stretched_have : (low : ℤ) (xs : List Span) (i : ℕ) → suc i ≡ length xs → AreSpansFrom low xs → v.0 ≡ (get_or xs i d).0 → (get_or xs i d).1 ≤ℤ v.1 → (t : ℤ) → has (set xs i v) t ≡ (has xs t || beyond xs i t)
  stretched_have low [] i last is begins longer t = absurd (omega (arith, last))
  stretched_have low (x ∷ []) zero last is begins longer t = one v.0 v.1 x.0 x.1 is.1 begins longer
    where
      one : (v0 v1 x0 x1 : ℤ) → x0 ≤ℤ x1 → v0 ≡ x0 → x1 ≤ℤ v1 → ((int_le v0 t && int_le t v1) || false) ≡ (((int_le x0 t && int_le t x1) || false) || (int_le (x1 +ℤ pos 1) t && int_le t v1))
      one v0 v1 x0 x1 ordered begins longer = grind (arith, ints)
  stretched_have low (x ∷ y ∷ ys) zero last is begins longer t = absurd (omega (arith, last))
  stretched_have low (x ∷ xs) (suc i) last is begins longer t =
      ap (λ (b : Bool). is_in x t || b) (stretched_have (x.1 +ℤ pos 2) xs i (omega (arith, last)) is.3 begins longer t)
      ∙ assoc (is_in x t) (has xs t) (beyond xs i t)
    where
      assoc : (a b c : Bool) → (a || (b || c)) ≡ ((a || b) || c)
      assoc a b c = grind arith

  -- the end of the last is a time of them
  pub has_end : (low : ℤ) (xs : List Span) (i : ℕ) → suc i ≡ length xs → AreSpansFrom low xs → has xs (get_or xs i d).1 ≡ true
  has_end low [] i last is = absurd (omega (arith, last))
  has_end low (x ∷ xs) zero last is = let ordered = is.1 in has_first x xs x.1 (inside x x.1 ordered (omega (arith, ints)))
  has_end low (x ∷ xs) (suc i) last is = or_second (is_in x (get_or xs i d).1) (has xs (get_or xs i d).1) (has_end (x.1 +ℤ pos 2) xs i (omega (arith, last)) is.3)
    where
      or_second : (a b : Bool) → b ≡ true → (a || b) ≡ true
      or_second true b e = refl
      or_second false b e = e

  -- all times come no later than the end of the last
  pub ends_last : (low : ℤ) (xs : List Span) (i : ℕ) → suc i ≡ length xs → AreSpansFrom low xs → (t : ℤ) → has xs t ≡ true → t ≤ℤ (get_or xs i d).1
  ends_last low [] i last is t e = absurd (omega (arith, last))
  ends_last low (x ∷ []) zero last is t e = by (or_cases (is_in x t) false e)
    where
      by : (is_in x t ≡ true) ⊎ (false ≡ true) → t ≤ℤ x.1
      by (inl here) = (in_parts x t here).1
      by (inr never) = absurd (false≢true never)
  ends_last low (x ∷ y ∷ ys) zero last is t e = absurd (omega (arith, last))
  ends_last low (x ∷ xs) (suc i) last is t e = by (or_cases (is_in x t) (has xs t) e) (ends_last (x.1 +ℤ pos 2) xs i (omega (arith, last)) is.3 t)
    where
      end_there : has xs (get_or xs i d).1 ≡ true
      end_there = has_end (x.1 +ℤ pos 2) xs i (omega (arith, last)) is.3

      by : (is_in x t ≡ true) ⊎ (has xs t ≡ true) → (has xs t ≡ true → t ≤ℤ (get_or xs i d).1) → t ≤ℤ (get_or xs i d).1
      by (inl here) later =
          let upto = (in_parts x t here).1 in
          let past = holds_no (x.1 +ℤ pos 2) xs is.3 (get_or xs i d).1 end_there in
          omega (arith, ints, upto, past)
      by (inr there) later = later there

  pub late_end : (low : ℤ) (xs : List Span) (i : ℕ) → suc i ≡ length xs → AreSpansFrom low xs → ((get_or xs i d).1 ≤ℤ pos (2 ^ 50)) × (low ≤ℤ (get_or xs i d).0) × ((get_or xs i d).0 ≤ℤ (get_or xs i d).1)
  late_end low [] i last is = absurd (omega (arith, last))
  late_end low (x ∷ xs) zero last is = (is.2, is.0, is.1)
  late_end low (x ∷ xs) (suc i) last is =
      let more = late_end (x.1 +ℤ pos 2) xs i (omega (arith, last)) is.3 in
      let from = is.0 in
      let ordered = is.1 in
      let high = more.0 in
      let low_end = more.1 in
      (high, omega (arith, ints, from, ordered, low_end), more.2)

-- a span that does not touch the last begins at least two units later
pub apart_from : (low : ℤ) (xs : List Span) (i : ℕ) (d : Span) (first : ℤ) → suc i ≡ length xs → AreSpansFrom low xs → IsAfterAll xs first → ((get_or xs i d).1 +ℤ pos 1 ≡ first → ⊥)
    → (t : ℤ) → has xs t ≡ true → (t +ℤ pos 2) ≤ℤ first
apart_from low xs i d first last is after untouched t e =
    let upto = ends_last (pos 0, pos 0) d low xs i last is t e in
    let before = after (get_or xs i d).1 (has_end (pos 0, pos 0) d low xs i last is) in
    by (get_or xs i d).1 untouched upto before
  where
    by : (end : ℤ) → ((end +ℤ pos 1) ≡ first → ⊥) → t ≤ℤ end → end <ℤ first → (t +ℤ pos 2) ≤ℤ first
    by end apart upto before = split (upto_or_after (first -ℤ end) (pos 1))
      where
        split : ((first -ℤ end) ≤ℤ pos 1) ⊎ (pos 1 <ℤ (first -ℤ end)) → (t +ℤ pos 2) ≤ℤ first
        split (inl near) = absurd (apart (omega (arith, ints, near, before)))
        split (inr far) = omega (arith, ints, far, upto)

-- ---- as the code reads them
pub same_next : (end first : ℤ) → SFits w64 end → SFits w64 (end +ℤ pos 1) → SFits w64 first → of_z w64 (to_z w64 (of_z w64 end) +ℤ pos 1) ≡ of_z w64 first → (end +ℤ pos 1) ≡ first
same_next end first own more fits e =
    sym (to_z-of_z w64 (end +ℤ pos 1) more)
    ∙ (ap (λ (z : ℤ). to_z w64 (of_z w64 (z +ℤ pos 1))) (sym (to_z-of_z w64 end own)) ∙ (ap (to_z w64) e ∙ to_z-of_z w64 first fits))

pub not_next : (end first : ℤ) → SFits w64 end → (of_z w64 (to_z w64 (of_z w64 end) +ℤ pos 1) ≡ of_z w64 first → ⊥) → (end +ℤ pos 1) ≡ first → ⊥
not_next end first own other e = other (ap (λ (z : ℤ). of_z w64 (z +ℤ pos 1)) (to_z-of_z w64 end own) ∙ ap (of_z w64) e)

-- the last of so many spans, by what was read of it
module _ (xs : List Span) (count : ℕ) (d : Span) (counted : count ≡ length xs) (some : 0 < count) (are : AreSpansFrom earliest xs) (read : d ≡ get_or xs (count - 1) d) where
  last_index : suc (count - 1) ≡ length xs
  last_index = omega (arith, counted, some)

  pub last_fits : SFits w64 d.1 × SFits w64 (d.1 +ℤ pos 1)
  last_fits =
      let ends = late_end (pos 0, pos 0) d earliest xs (count - 1) last_index are in
      let high : d.1 ≤ℤ pos (2 ^ 50) = subst (λ (x : Span). x.1 ≤ℤ pos (2 ^ 50)) (sym read) ends.0 in
      let low : earliest ≤ℤ d.0 = subst (λ (x : Span). earliest ≤ℤ x.0) (sym read) ends.1 in
      let ordered : d.0 ≤ℤ d.1 = subst (λ (x : Span). x.0 ≤ℤ x.1) (sym read) ends.2 in
      (fits_signed_from_abs w64 d.1 (omega (arith, ints, high, low, ordered)), fits_signed_from_abs w64 (d.1 +ℤ pos 1) (omega (arith, ints, high, low, ordered)))

  -- one span more, apart from it
  pub added_apart : (first last : ℤ) → earliest ≤ℤ first → first ≤ℤ last → last ≤ℤ pos (2 ^ 50) → IsAfterAll xs first → ((d.1 +ℤ pos 1) ≡ first → ⊥) → AreSpansFrom earliest (xs ++ (first, last) ∷ [])
  added_apart first last early ordered late after apart =
      one_more earliest xs (first, last) are early ordered late
      (apart_from earliest xs (count - 1) d first last_index are after (λ e. apart (subst (λ (x : Span). (x.1 +ℤ pos 1) ≡ first) (sym read) e)))

  -- it goes on
  module _ (own : Span) (same : own ≡ get_or xs (count - 1) own) (first last : ℤ) (next : (d.1 +ℤ pos 1) ≡ first) (ordered : first ≤ℤ last) (late : last ≤ℤ pos (2 ^ 50))
      (end : ℤ) (ends : end ≡ last) where
    begins : own.0 ≡ (get_or xs (count - 1) d).0
    begins = ap (λ (x : Span). x.0) (get_or_read xs (count - 1) own (omega (arith, last_index)) same d)

    end_is : (get_or xs (count - 1) d).1 ≡ d.1
    end_is = ap (λ (x : Span). x.1) (sym read)

    longer : (get_or xs (count - 1) d).1 ≤ℤ last
    longer = let e = end_is in omega (arith, ints, e, next, ordered)

    pub joined_are : AreSpansFrom earliest (set xs (count - 1) (own.0, end))
    joined_are = subst (λ (z : ℤ). AreSpansFrom earliest (set xs (count - 1) (own.0, z))) (sym ends) (stretched_are (own.0, last) d earliest xs (count - 1) last_index are begins longer late)

    pub joined_have : (t : ℤ) → has (set xs (count - 1) (own.0, end)) t ≡ (has xs t || is_in (first, last) t)
    joined_have t =
        ap (λ (z : ℤ). has (set xs (count - 1) (own.0, z)) t) ends
        ∙ (stretched_have (own.0, last) d earliest xs (count - 1) last_index are begins longer t
        ∙ ap (λ (from : ℤ). has xs t || (int_le from t && int_le t last)) (ap (λ (z : ℤ). z +ℤ pos 1) end_is ∙ next))

-- no spans yet
pub added_first : (xs : List Span) (count : ℕ) → count ≡ length xs → count ≤ 0 → (first last : ℤ) → earliest ≤ℤ first → first ≤ℤ last → last ≤ℤ pos (2 ^ 50) → AreSpansFrom earliest (xs ++ (first, last) ∷ [])
added_first [] count counted none first last early ordered late = (early, ordered, late, tt)
added_first (x ∷ xs) count counted none first last early ordered late = absurd (omega (arith, counted, none))

-- one span more, where there is memory for it
pub kept_are : (done : Bool) (xs now more : List Span) → now ≡ (if done then more else xs) → AreSpansFrom earliest xs → AreSpansFrom earliest more → AreSpansFrom earliest now
kept_are true xs now more e old new = subst (AreSpansFrom earliest) (sym e) new
kept_are false xs now more e old new = subst (AreSpansFrom earliest) (sym e) old

-- the same list by another name
pub renamed : (xs old now : List Span) (first last : ℤ) → xs ≡ old → ((t : ℤ) → has now t ≡ (has xs t || is_in (first, last) t))
    → (t : ℤ) → has now t ≡ (has old t || is_in (first, last) t)
renamed xs old now first last e h t = h t ∙ ap (λ (ys : List Span). has ys t || is_in (first, last) t) e

pub added_has : (xs : List Span) (first last t : ℤ) → has (xs ++ (first, last) ∷ []) t ≡ (has xs t || is_in (first, last) t)
added_has xs first last t = has_both xs ((first, last) ∷ []) t ∙ ap (λ (b : Bool). has xs t || b) (alone (is_in (first, last) t))
  where
    alone : (a : Bool) → (a || false) ≡ a
    alone a = grind arith

pub more_as_read : (xs : List Span) (a b first last : ℤ) → a ≡ first → b ≡ last → AreSpansFrom earliest (xs ++ (first, last) ∷ []) → AreSpansFrom earliest (xs ++ (a, b) ∷ [])
more_as_read xs a b first last e f is =
    subst (λ (z : ℤ). AreSpansFrom earliest (xs ++ (z, b) ∷ [])) (sym e) (subst (λ (z : ℤ). AreSpansFrom earliest (xs ++ (first, z) ∷ [])) (sym f) is)

pub added_as_read : (xs old now : List Span) (a b first last : ℤ) → a ≡ first → b ≡ last → xs ≡ old → now ≡ xs ++ (a, b) ∷ []
    → (t : ℤ) → has now t ≡ (has old t || is_in (first, last) t)
added_as_read xs old now a b first last e f same is t =
    ap (λ (ys : List Span). has ys t) is
    ∙ (added_has xs a b t ∙ ((λ i. has (same i) t || (int_le (e i) t && int_le t (f i)))))
