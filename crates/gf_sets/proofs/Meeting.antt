-- A walk over two lists of spans that keeps what they share.
use Rattle.std.proofs.Common.{◌≡◌, ◌⊎◌, inl, inr, Bool, true, false, ◌&&◌, ◌||◌, int_le, List, ◌∷◌, ℤ, pos, ◌+ℤ◌, ◌≤ℤ◌, ◌<ℤ◌, ℕ, ◌+◌, ◌<◌, length, drop, get_or, refl, sym, ap, ◌∙◌, subst, to_z, of_z, w64, ◌^◌, arith}
use Rattle.std.specs.Int.{int_min, int_max}
use Rattle.std.proofs.lemmas.Int.{clamps, ints, to_z-of_z}
use mathlib.Core.Bool.{and_comm}
use lib.Signed.{lt_z}
use Rattle.std.proofs.lemmas.Bool.{or_cases}
use Rattle.spec_sets.specs.Spans.{Span, is_in, has, AreSpansFrom, earliest}
use Rattle.spec_sets.proofs.Members.{has_first, holds_no, inside, lower, not_later}
use mir.Val.{SFits}
use Rattle.gf_sets.proofs.Reading.{ends_fit, le_by, split_at}
use Rattle.spec_trees.proofs.Sides.{upto_or_after}
use Rattle.gf_sets.specs.Meeting.{IsMet}
use Rattle.spec_sets.specs.Spans.{IsAfterAll}

module _ (xs ys : List Span) (x y : Span) (more others out now : List Span) (so_far : IsMet xs ys (x ∷ more) (y ∷ others) out)
    (added : (t : ℤ) → has now t ≡ (has out t || (int_le (int_max x.0 y.0) t && int_le t (int_min x.1 y.1)))) where
  tail : (low : ℤ) (z : Span) (zs : List Span) → low ≤ℤ (z.1 +ℤ pos 2) → AreSpansFrom low (z ∷ zs) → AreSpansFrom low zs
  tail low z zs h is = lower low (z.1 +ℤ pos 2) zs h is.3

  low_more : earliest ≤ℤ (x.1 +ℤ pos 2)
  low_more = let a = so_far.more_are.0 in let b = so_far.more_are.1 in omega (arith, ints, a, b)

  no_more : (t : ℤ) → t ≤ℤ (x.1 +ℤ pos 1) → has more t ≡ false
  no_more = not_later earliest x more so_far.more_are

  no_others : (t : ℤ) → t ≤ℤ (y.1 +ℤ pos 1) → has others t ≡ false
  no_others = not_later earliest y others so_far.others_are

  -- the span of the first list ends first, or both end together
  module _ (ends : x.1 ≤ℤ y.1) where
    first_at : (t : ℤ) (w o m r : Bool) → w ≡ (o || (((int_le x.0 t && int_le t x.1) || m) && ((int_le y.0 t && int_le t y.1) || r)))
        → (t ≤ℤ x.1) ⊎ (x.1 <ℤ t) → (t ≤ℤ (x.1 +ℤ pos 1) → m ≡ false) → (t ≤ℤ (y.1 +ℤ pos 1) → r ≡ false)
        → w ≡ ((o || (int_le (int_max x.0 y.0) t && int_le t (int_min x.1 y.1))) || (m && ((int_le y.0 t && int_le t y.1) || r)))
    first_at t w o m r e (inl upto) none other = let a = none (omega (arith, ints, upto)) in let b = other (omega (arith, ints, upto, ends)) in grind (arith, ints)
    first_at t w o m r e (inr past) none other = grind (arith, ints)

    first_shared : (t : ℤ) → (has xs t && has ys t) ≡ (has now t || (has more t && has (y ∷ others) t))
    first_shared t =
        first_at t (has xs t && has ys t) (has out t) (has more t) (has others t) (so_far.shared t) (upto_or_after t x.1) (no_more t) (no_others t)
        ∙ ap (λ (b : Bool). b || (has more t && has (y ∷ others) t)) (sym (added t))

    before_more : (t u : ℤ) → (int_le (int_max x.0 y.0) t && int_le t (int_min x.1 y.1)) ≡ true → has more u ≡ true → t <ℤ u
    before_more t u e there =
        let late = holds_no (x.1 +ℤ pos 2) more so_far.more_are.3 u there in
        within t u late e
      where
        within : (t u : ℤ) → (x.1 +ℤ pos 2) ≤ℤ u → (int_le (int_max x.0 y.0) t && int_le t (int_min x.1 y.1)) ≡ true → t <ℤ u
        within t u late e = grind (arith, ints)

    pub first_met : IsMet xs ys more (y ∷ others) now
    first_met = record {
      shared = first_shared;
      later = λ t u e there other. by t u (or_cases (has out t) _ (sym (added t) ∙ e)) there other;
      more_are = tail earliest x more low_more so_far.more_are;
      others_are = so_far.others_are;
    }
      where
        later_too : (u : ℤ) → has more u ≡ true → has (x ∷ more) u ≡ true
        later_too u e = or_second (is_in x u) (has more u) e
          where
            or_second : (a b : Bool) → b ≡ true → (a || b) ≡ true
            or_second true b e = refl
            or_second false b e = e

        by : (t u : ℤ) → (has out t ≡ true) ⊎ ((int_le (int_max x.0 y.0) t && int_le t (int_min x.1 y.1)) ≡ true) → has more u ≡ true → has (y ∷ others) u ≡ true → t <ℤ u
        by t u (inl e) there other = so_far.later t u e (later_too u there) other
        by t u (inr e) there other = before_more t u e there

-- the two lists in the other order
swapped : (xs ys more others out : List Span) → IsMet xs ys more others out → IsMet ys xs others more out
swapped xs ys more others out so_far = record {
  shared = λ t. and_comm (has ys t) (has xs t) ∙ (so_far.shared t ∙ ap (λ (b : Bool). has out t || b) (and_comm (has more t) (has others t)));
  later = λ t u e there other. so_far.later t u e other there;
  more_are = so_far.others_are;
  others_are = so_far.more_are;
}

-- that of the second list ends first, or both end together
second_met : (xs ys : List Span) (x y : Span) (more others out now : List Span) → IsMet xs ys (x ∷ more) (y ∷ others) out
    → ((t : ℤ) → has now t ≡ (has out t || (int_le (int_max x.0 y.0) t && int_le t (int_min x.1 y.1)))) → y.1 ≤ℤ x.1 → IsMet xs ys (x ∷ more) others now
second_met xs ys x y more others out now so_far added ends =
    swapped ys xs others (x ∷ more) now
    (first_met ys xs y x others more out now (swapped xs ys (x ∷ more) (y ∷ others) out so_far)
    (λ t. added t ∙ λ i. has out t || (int_le (either_max x.0 y.0 i) t && int_le t (either_min x.1 y.1 i))) ends)
  where
    either_max : (a b : ℤ) → int_max a b ≡ int_max b a
    either_max a b = omega (arith, ints, clamps)

    either_min : (a b : ℤ) → int_min a b ≡ int_min b a
    either_min a b = omega (arith, ints, clamps)

-- what both spans share comes after all so far
pub shared_after : (xs ys : List Span) (x y : Span) (more others out : List Span) → IsMet xs ys (x ∷ more) (y ∷ others) out
    → int_max x.0 y.0 ≤ℤ int_min x.1 y.1 → IsAfterAll out (int_max x.0 y.0)
shared_after xs ys x y more others out so_far some t e =
    so_far.later t (int_max x.0 y.0) e
    (has_first x more (int_max x.0 y.0) (inside x (int_max x.0 y.0) (grind (arith, ints)) (in_x x.0 y.0 x.1 y.1 some)))
    (has_first y others (int_max x.0 y.0) (inside y (int_max x.0 y.0) (grind (arith, ints)) (in_y x.0 y.0 x.1 y.1 some)))
  where
    in_x : (a b c d : ℤ) → int_max a b ≤ℤ int_min c d → int_max a b ≤ℤ c
    in_x a b c d h = grind (arith, ints)

    in_y : (a b c d : ℤ) → int_max a b ≤ℤ int_min c d → int_max a b ≤ℤ d
    in_y a b c d h = grind (arith, ints)

-- ---- as the code reads them
lt_read : (a b : ℤ) → lt_z a b ≡ true → a <ℤ b
lt_read a b e = grind (arith, ints)

not_lt_read : (a b : ℤ) → lt_z a b ≡ false → b ≤ℤ a
not_lt_read a b e = grind (arith, ints)

max_from : (low a b : ℤ) → low ≤ℤ a → low ≤ℤ int_max a b
max_from low a b h = grind (arith, ints)

min_upto : (a b high : ℤ) → a ≤ℤ high → int_min a b ≤ℤ high
min_upto a b high h = grind (arith, ints)

module _ (xs ys own others : List Span) (i j : ℕ) (out : List Span) (in_own : i < length own) (in_others : j < length others)
    (so_far : IsMet xs ys (drop i own) (drop j others) out) where
  abbrev pub one : Span
  one = get_or own i (pos 0, pos 0)

  abbrev pub other : Span
  other = get_or others j (pos 0, pos 0)

  pub here : IsMet xs ys (one ∷ drop (i + 1) own) (other ∷ drop (j + 1) others) out
  here =
      subst (λ (more : List Span). IsMet xs ys more (other ∷ drop (j + 1) others) out) (split_at own i (pos 0, pos 0) in_own)
      (subst (λ (more : List Span). IsMet xs ys (drop i own) more out) (split_at others j (pos 0, pos 0) in_others) so_far)

  pub one_fits : SFits w64 one.0 × SFits w64 one.1
  one_fits = let f = ends_fit earliest one (drop (i + 1) own) (omega (arith, ints)) here.more_are in (f.0, f.1)

  pub other_fits : SFits w64 other.0 × SFits w64 other.1
  other_fits = let f = ends_fit earliest other (drop (j + 1) others) (omega (arith, ints)) here.others_are in (f.0, f.1)

  -- by what code reads of the two
  pub ends_first : lt_z (to_z w64 (of_z w64 one.1)) (to_z w64 (of_z w64 other.1)) ≡ true → one.1 <ℤ other.1
  ends_first e = lt_read one.1 other.1 ((λ k. lt_z (sym (to_z-of_z w64 one.1 one_fits.1) k) (sym (to_z-of_z w64 other.1 other_fits.1) k)) ∙ e)

  pub ends_later : lt_z (to_z w64 (of_z w64 one.1)) (to_z w64 (of_z w64 other.1)) ≡ false → other.1 ≤ℤ one.1
  ends_later e = not_lt_read one.1 other.1 ((λ k. lt_z (sym (to_z-of_z w64 one.1 one_fits.1) k) (sym (to_z-of_z w64 other.1 other_fits.1) k)) ∙ e)

  -- the greater beginning and the lesser end, as code finds them
  module _ (max min : ℤ) (max_fits : SFits w64 max) (min_fits : SFits w64 min)
      (max_is : max ≡ int_max (to_z w64 (of_z w64 one.0)) (to_z w64 (of_z w64 other.0))) (min_is : min ≡ int_min (to_z w64 (of_z w64 one.1)) (to_z w64 (of_z w64 other.1))) where
    abbrev pub first : ℤ
    first = to_z w64 (of_z w64 max)

    abbrev pub last : ℤ
    last = to_z w64 (of_z w64 min)

    same_first : first ≡ int_max one.0 other.0
    same_first = to_z-of_z w64 max max_fits ∙ (max_is ∙ (λ k. int_max (to_z-of_z w64 one.0 one_fits.0 k) (to_z-of_z w64 other.0 other_fits.0 k)))

    same_last : last ≡ int_min one.1 other.1
    same_last = to_z-of_z w64 min min_fits ∙ (min_is ∙ (λ k. int_min (to_z-of_z w64 one.1 one_fits.1 k) (to_z-of_z w64 other.1 other_fits.1 k)))

    pub shared_early : earliest ≤ℤ first
    shared_early = subst (λ (z : ℤ). earliest ≤ℤ z) (sym same_first) (max_from earliest one.0 other.0 here.more_are.0)

    pub shared_late : last ≤ℤ pos (2 ^ 50)
    shared_late = subst (λ (z : ℤ). z ≤ℤ pos (2 ^ 50)) (sym same_last) (min_upto one.1 other.1 (pos (2 ^ 50)) here.more_are.2)

    pub shared_after_all : first ≤ℤ last → IsAfterAll out first
    shared_after_all some =
        subst (λ (z : ℤ). IsAfterAll out z) (sym same_first)
        (shared_after xs ys one other (drop (i + 1) own) (drop (j + 1) others) out here
        (le_by first last (int_max one.0 other.0) (int_min one.1 other.1) same_first same_last some))

    module _ (now : List Span) (added : (t : ℤ) → has now t ≡ (has out t || is_in (first, last) t)) where
      in_both : (t : ℤ) → has now t ≡ (has out t || (int_le (int_max one.0 other.0) t && int_le t (int_min one.1 other.1)))
      in_both t = added t ∙ (λ i. has out t || (int_le (same_first i) t && int_le t (same_last i)))

      pub first_as_read : one.1 <ℤ other.1 → IsMet xs ys (drop (i + 1) own) (drop j others) now
      first_as_read ends =
          subst (λ (more : List Span). IsMet xs ys (drop (i + 1) own) more now) (sym (split_at others j (pos 0, pos 0) in_others))
          (first_met xs ys one other (drop (i + 1) own) (drop (j + 1) others) out now here in_both (omega (arith, ints, ends)))

      pub second_as_read : other.1 ≤ℤ one.1 → IsMet xs ys (drop i own) (drop (j + 1) others) now
      second_as_read ends =
          subst (λ (more : List Span). IsMet xs ys more (drop (j + 1) others) now) (sym (split_at own i (pos 0, pos 0) in_own))
          (second_met xs ys one other (drop (i + 1) own) (drop (j + 1) others) out now here in_both ends)
