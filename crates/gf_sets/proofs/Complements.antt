-- A walk over spans that keeps what they leave out.
use Rattle.std.proofs.Common.{◌≡◌, ◌⊎◌, inl, inr, Bool, true, false, not, ◌&&◌, ◌||◌, int_le, int_lt, List, [], ◌∷◌, ℤ, pos, ◌+ℤ◌, ◌-ℤ◌, ◌≤ℤ◌, ◌<ℤ◌, refl, sym, ap, ◌∙◌, subst, ℕ, ◌+◌, ◌<◌, ◌≤◌, ◌^◌, length, drop, get_or, arith}
use Rattle.std.proofs.lemmas.Int.{ints}
use Rattle.std.proofs.lemmas.List.{drop_all}
use Rattle.std.proofs.lemmas.Bool.{and_parts, or_cases, false≢true}
use Rattle.spec_sets.specs.Spans.{Span, is_in, has, AreSpansFrom, earliest, latest}
use Rattle.spec_sets.specs.Spans.{is_between}
use Rattle.spec_sets.proofs.Members.{le_so, le_test, has_first, has_rest, holds_no, in_parts, inside, is_past, lower, not_later}
use mir.Val.{SFits}
use Rattle.std.proofs.Common.{w64}
use Rattle.gf_sets.proofs.Reading.{ends_fit, split_at}
use Rattle.spec_trees.proofs.Sides.{upto_or_after}
use Rattle.gf_sets.specs.Complements.{IsLeftOut}
use Rattle.spec_sets.specs.Spans.{IsAfterAll}

abbrev pub AreInside : List Span → ℤ → ℤ → Type 0
AreInside spans from to = (t : ℤ) → has spans t ≡ true → is_between from to t ≡ true

inside_low : (from to t : ℤ) → is_between from to t ≡ true → from ≤ℤ t
inside_low from to t e = le_so from t (and_parts (int_le from t) (int_le t to) e).0

inside_high : (from to t : ℤ) → is_between from to t ≡ true → t ≤ℤ to
inside_high from to t e = le_so t to (and_parts (int_le from t) (int_le t to) e).1

-- spans none of which begins before a time
from_there : (spans : List Span) (from to : ℤ) → AreSpansFrom earliest spans → AreInside spans from to → AreSpansFrom from spans
from_there [] from to is all = tt
from_there (x ∷ xs) from to is all =
    let ordered = is.1 in
    (inside_low from to x.0 (all x.0 (has_first x xs x.0 (inside x x.0 (omega (arith, ints)) ordered))), is.1, is.2, is.3)

pub nothing_yet : (spans : List Span) (from to : ℤ) → from ≤ℤ to → AreSpansFrom earliest spans → AreInside spans from to → IsLeftOut spans spans from to from []
nothing_yet spans from to ordered is all = record {
  ordered = omega (arith, ints);
  upto = omega (arith, ints, ordered);
  before = λ t. none t (has spans t);
  spans = from_there spans from to is all;
  after = λ t later. refl;
}
  where
    none : (t : ℤ) (h : Bool) → false ≡ (int_le from t && (int_lt t from && not h))
    none t h = grind (arith, ints)

module _ (spans : List Span) (s : Span) (rest : List Span) (from to next : ℤ) (out more : List Span) (so_far : IsLeftOut spans (s ∷ rest) from to next out)
    (added : (t : ℤ) → has more t ≡ (has out t || (int_le next t && int_lt t s.0))) where
  begins : next ≤ℤ s.0
  begins = so_far.spans.0

  ordered : s.0 ≤ℤ s.1
  ordered = so_far.spans.1

  -- before `next` nothing has changed
  earlier : (t : ℤ) (o h : Bool) → t <ℤ next → o ≡ (int_le from t && (int_lt t next && not h))
      → (o || (int_le next t && int_lt t s.0)) ≡ (int_le from t && (int_lt t (s.1 +ℤ pos 1) && not h))
  earlier t o h before e = grind (arith, ints, begins, ordered)

  -- from there on the span is left out, and what comes before it is not
  here : (t : ℤ) (o h r : Bool) → next ≤ℤ t → from ≤ℤ next → o ≡ (int_le from t && (int_lt t next && not h)) → h ≡ ((int_le s.0 t && int_le t s.1) || r)
      → (t ≤ℤ (s.1 +ℤ pos 1)) ⊎ ((s.1 +ℤ pos 1) <ℤ t) → (t ≤ℤ (s.1 +ℤ pos 1) → r ≡ false)
      → (o || (int_le next t && int_lt t s.0)) ≡ (int_le from t && (int_lt t (s.1 +ℤ pos 1) && not h))
  here t o h r after first e f (inl upto) none = let n = none upto in grind (arith, ints, begins, ordered)
  here t o h r after first e f (inr past) none = grind (arith, ints, begins, ordered)

  at : (t : ℤ) → (next ≤ℤ t) ⊎ (t <ℤ next) → has more t ≡ (int_le from t && (int_lt t (s.1 +ℤ pos 1) && not (has spans t)))
  at t (inl after) =
      added t
      ∙ here t (has out t) (has spans t) (has rest t) after so_far.ordered (so_far.before t) (so_far.after t after) (upto_or_after t (s.1 +ℤ pos 1))
      (not_later next s rest so_far.spans t)
  at t (inr before) = added t ∙ earlier t (has out t) (has spans t) before (so_far.before t)

  pub left_out : AreInside spans from to → IsLeftOut spans rest from to (s.1 +ℤ pos 1) more
  left_out all =
      let first = so_far.ordered in
      let there = so_far.after s.1 (omega (arith, ints, begins, ordered)) ∙ has_first s rest s.1 (inside s s.1 ordered (omega (arith, ints))) in
      let last = inside_high from to s.1 (all s.1 there) in
      record {
        ordered = omega (arith, ints, begins, ordered, first);
        upto = omega (arith, ints, last);
        before = λ t. at t (upto_or_after next t);
        spans = lower (s.1 +ℤ pos 1) (s.1 +ℤ pos 2) rest (omega (arith, ints)) so_far.spans.3;
        after = λ t later. so_far.after t (omega (arith, ints, begins, ordered, later)) ∙ has_rest s rest t (is_past s t (omega (arith, ints, later)));
      }

-- all that is left out comes before the next time
pub out_before : (spans rest : List Span) (from to next : ℤ) (out : List Span) → IsLeftOut spans rest from to next out → IsAfterAll out next
out_before spans rest from to next out so_far t e = by (sym (so_far.before t) ∙ e)
  where
    by : (int_le from t && (int_lt t next && not (has spans t))) ≡ true → t <ℤ next
    by e = let both = and_parts (int_le from t) (int_lt t next && not (has spans t)) e in
        let more = and_parts (int_lt t next) (not (has spans t)) both.1 in
        lt_so t next more.0
      where
        lt_so : (a b : ℤ) → int_lt a b ≡ true → a <ℤ b
        lt_so a b e = grind (arith, ints)

-- and at the end the rest up to `to`
pub whole_out : (spans : List Span) (from to next : ℤ) (out more : List Span) → IsLeftOut spans [] from to next out
    → ((t : ℤ) → has more t ≡ (has out t || (int_le next t && int_le t to))) → (t : ℤ) → has more t ≡ (is_between from to t && not (has spans t))
whole_out spans from to next out more so_far added t = by (upto_or_after next t)
  where
    past : (o h : Bool) → next ≤ℤ t → from ≤ℤ next → next ≤ℤ (to +ℤ pos 1) → o ≡ (int_le from t && (int_lt t next && not h)) → h ≡ false
        → (o || (int_le next t && int_le t to)) ≡ ((int_le from t && int_le t to) && not h)
    past o h after first upto e f = grind (arith, ints)

    before : (o h : Bool) → t <ℤ next → from ≤ℤ next → next ≤ℤ (to +ℤ pos 1) → o ≡ (int_le from t && (int_lt t next && not h))
        → (o || (int_le next t && int_le t to)) ≡ ((int_le from t && int_le t to) && not h)
    before o h early first upto e = grind (arith, ints)

    by : (next ≤ℤ t) ⊎ (t <ℤ next) → has more t ≡ (is_between from to t && not (has spans t))
    by (inl after) = added t ∙ past (has out t) (has spans t) after so_far.ordered so_far.upto (so_far.before t) (so_far.after t after)
    by (inr early) = added t ∙ before (has out t) (has spans t) early so_far.ordered so_far.upto (so_far.before t)

-- ---- as the code reads it: the ends by other names
pub nothing_as_read : (spans : List Span) (from to from_read to_read : ℤ) (out : List Span) → from_read ≡ from → to_read ≡ to → out ≡ [] → from ≤ℤ to
    → AreSpansFrom earliest spans → AreInside spans from to → IsLeftOut spans spans from_read to_read from_read out
nothing_as_read spans from to from_read to_read out f t e ordered is all =
    subst (λ (z : ℤ). IsLeftOut spans spans z to_read z out) (sym f)
    (subst (λ (z : ℤ). IsLeftOut spans spans from z from out) (sym t)
    (subst (λ (zs : List Span). IsLeftOut spans spans from to from zs) (sym e) (nothing_yet spans from to ordered is all)))

module _ (xs : List Span) (i : ℕ) (from to next from_read to_read : ℤ) (out : List Span) (same_from : from_read ≡ from) (same_to : to_read ≡ to) (within : i < length xs)
    (so_far : IsLeftOut xs (drop i xs) from_read to_read next out) where
  abbrev pub span : Span
  span = get_or xs i (pos 0, pos 0)

  pub span_here : IsLeftOut xs (span ∷ drop (i + 1) xs) from to next out
  span_here =
      subst (λ (more : List Span). IsLeftOut xs more from to next out) (split_at xs i (pos 0, pos 0) within)
      (subst (λ (z : ℤ). IsLeftOut xs (drop i xs) from z next out) same_to
      (subst (λ (z : ℤ). IsLeftOut xs (drop i xs) z to_read next out) same_from so_far))

  pub span_fits : earliest ≤ℤ from → SFits w64 span.0 × SFits w64 span.1 × SFits w64 (span.0 -ℤ pos 1) × SFits w64 (span.1 +ℤ pos 1)
  span_fits early = let o = span_here.ordered in ends_fit next span (drop (i + 1) xs) (omega (arith, ints, early, o)) span_here.spans

  pub ends_in_time : (span.0 -ℤ pos 1) ≤ℤ pos (2 ^ 50)
  ends_in_time = let a = span_here.spans.1 in let b = span_here.spans.2 in omega (arith, ints, a, b)

  pub before_next : IsAfterAll out next
  before_next = out_before xs (span ∷ drop (i + 1) xs) from to next out span_here

  pub left_out_as_read : (before after : ℤ) (more : List Span) → before ≡ span.0 -ℤ pos 1 → after ≡ span.1 +ℤ pos 1
      → ((t : ℤ) → has more t ≡ (has out t || is_in (next, before) t)) → AreInside xs from to → IsLeftOut xs (drop (i + 1) xs) from_read to_read after more
  left_out_as_read before after more b a added all =
      subst (λ (z : ℤ). IsLeftOut xs (drop (i + 1) xs) z to_read after more) (sym same_from)
      (subst (λ (z : ℤ). IsLeftOut xs (drop (i + 1) xs) from z after more) (sym same_to)
      (subst (λ (z : ℤ). IsLeftOut xs (drop (i + 1) xs) from to z more) (sym a)
      (left_out xs span (drop (i + 1) xs) from to next out more span_here (λ t. added t ∙ (ap (λ (z : ℤ). has out t || (int_le next t && int_le t z)) b ∙ earlier_than (has out t) next span.0 t)) all)))
    where
      earlier_than : (o : Bool) (a b t : ℤ) → (o || (int_le a t && int_le t (b -ℤ pos 1))) ≡ (o || (int_le a t && int_lt t b))
      earlier_than o a b t = grind (arith, ints)

pub all_as_read : (xs : List Span) (i : ℕ) (from to next from_read to_read : ℤ) (out more : List Span) → from_read ≡ from → to_read ≡ to → length xs ≤ i
    → IsLeftOut xs (drop i xs) from_read to_read next out → ((t : ℤ) → has more t ≡ (has out t || is_in (next, to_read) t))
    → (t : ℤ) → has more t ≡ (is_between from to t && not (has xs t))
all_as_read xs i from to next from_read to_read out more f t past so_far added =
    whole_out xs from to next out more
    (subst (λ (rest : List Span). IsLeftOut xs rest from to next out) (drop_all i xs past)
    (subst (λ (z : ℤ). IsLeftOut xs (drop i xs) from z next out) t (subst (λ (z : ℤ). IsLeftOut xs (drop i xs) z to_read next out) f so_far)))
    (λ u. added u ∙ ap (λ (z : ℤ). has out u || (int_le next u && int_le u z)) t)

-- all times of spans lie between the earliest and the latest
upto_latest : (low : ℤ) (xs : List Span) → AreSpansFrom low xs → (t : ℤ) → has xs t ≡ true → t ≤ℤ latest
upto_latest low [] is t e = absurd (false≢true e)
upto_latest low (x ∷ xs) is t e = by (or_cases (is_in x t) (has xs t) e) (upto_latest (x.1 +ℤ pos 2) xs is.3 t)
  where
    by : (is_in x t ≡ true) ⊎ (has xs t ≡ true) → (has xs t ≡ true → t ≤ℤ latest) → t ≤ℤ latest
    by (inl first) rest = let a = (in_parts x t first).1 in let b = is.2 in omega (arith, ints, a, b)
    by (inr later) rest = rest later

pub all_inside : (xs : List Span) → AreSpansFrom earliest xs → AreInside xs earliest latest
all_inside xs is t e = both (le_test earliest t (holds_no earliest xs is t e)) (le_test t latest (upto_latest earliest xs is t e))
  where
    both : int_le earliest t ≡ true → int_le t latest ≡ true → is_between earliest latest t ≡ true
    both a b = rw (a, b) refl

-- ---- a union is what not both leave out
final_is : (b h g : Bool) → (h ≡ true → b ≡ true) → (g ≡ true → b ≡ true) → (b && not ((b && not h) && (b && not g))) ≡ (h || g)
final_is true true g p q = refl
final_is true false true p q = refl
final_is true false false p q = refl
final_is false true g p q = absurd (false≢true (p refl))
final_is false false true p q = absurd (false≢true (q refl))
final_is false false false p q = refl

pub union_of : (xs ys own others neither out : List Span) → AreSpansFrom earliest xs → AreSpansFrom earliest ys
    → ((t : ℤ) → has own t ≡ (is_between earliest latest t && not (has xs t)))
    → ((t : ℤ) → has others t ≡ (is_between earliest latest t && not (has ys t)))
    → ((t : ℤ) → has neither t ≡ (has own t && has others t))
    → ((t : ℤ) → has out t ≡ (is_between earliest latest t && not (has neither t)))
    → (t : ℤ) → has out t ≡ (has xs t || has ys t)
union_of xs ys own others neither out is js a b met last t =
    last t
    ∙ (ap (λ (n : Bool). is_between earliest latest t && not n) (met t ∙ (λ i. a t i && b t i))
    ∙ final_is (is_between earliest latest t) (has xs t) (has ys t) (all_inside xs is t) (all_inside ys js t))
