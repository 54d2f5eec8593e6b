-- The longest runs of times at which a test holds are spans, and have these times.
use Rattle.std.proofs.Common.{◌≡◌, ℕ, zero, suc, ◌^◌, Bool, true, false, ◌&&◌, ◌||◌, int_le, int_lt, List, [], ◌∷◌, ℤ, pos, ◌+ℤ◌, ◌≤ℤ◌, refl, sym, ap, ◌∙◌, arith}
use Rattle.std.specs.Prelude.{if◌then◌else◌}
use Rattle.std.proofs.lemmas.Int.{ints}
use Rattle.spec_sets.specs.Spans.{Span, has, AreSpansFrom, in_front, runs, time_count, spans_of, earliest, is_between}
use Rattle.spec_sets.proofs.Members.{lower}
use Rattle.spec_sets.proofs.Unique.{same_spans}

-- ---- one time in front
front_is : (t : ℤ) (xs : List Span) → t ≤ℤ pos (2 ^ 50) → AreSpansFrom (t +ℤ pos 1) xs → AreSpansFrom t (in_front t xs)
front_is t [] few is = (omega (arith, ints), omega (arith, ints), few, tt)
front_is t (x ∷ xs) few is = by (int_le x.0 (t +ℤ pos 1)) refl
  where
    by : (near : Bool) → int_le x.0 (t +ℤ pos 1) ≡ near → AreSpansFrom t (if near then (t, x.1) ∷ xs else (t, t) ∷ x ∷ xs)
    by true e = let from = is.0 in let ordered = is.1 in (omega (arith, ints), omega (arith, ints, from, ordered), is.2, is.3)
    by false e = let from = is.0 in (omega (arith, ints), omega (arith, ints), few, (grind (arith, ints), is.1, is.2, is.3))

abbrev at_time : ℤ → ℤ → Bool
at_time t u = int_le t u && int_le u t

front_has : (t : ℤ) (xs : List Span) → AreSpansFrom (t +ℤ pos 1) xs → (u : ℤ) → has (in_front t xs) u ≡ (at_time t u || has xs u)
front_has t [] is u = refl
front_has t (x ∷ xs) is u = by (int_le x.0 (t +ℤ pos 1)) refl
  where
    joined : (from upto : ℤ) (rest : Bool) → (t +ℤ pos 1) ≤ℤ from → from ≤ℤ upto → int_le from (t +ℤ pos 1) ≡ true
        → ((int_le t u && int_le u upto) || rest) ≡ (at_time t u || ((int_le from u && int_le u upto) || rest))
    joined from upto rest h ordered e = grind (arith, ints)

    by : (near : Bool) → int_le x.0 (t +ℤ pos 1) ≡ near → has (if near then (t, x.1) ∷ xs else (t, t) ∷ x ∷ xs) u ≡ (at_time t u || has (x ∷ xs) u)
    by true e = joined x.0 x.1 (has xs u) is.0 is.1 e
    by false e = refl

-- ---- all
pub runs_are : (test : ℤ → Bool) (from : ℤ) (n : ℕ) → (from +ℤ pos n) ≤ℤ (pos (2 ^ 50) +ℤ pos 1) → AreSpansFrom from (runs test from n)
unfolding runs
runs_are test from zero few = tt
runs_are test from (suc n) few = by (test from) (runs_are test (from +ℤ pos 1) n (omega (arith, ints, few)))
  where
    by : (passes : Bool) → AreSpansFrom (from +ℤ pos 1) (runs test (from +ℤ pos 1) n) → AreSpansFrom from (if passes then in_front from (runs test (from +ℤ pos 1) n) else runs test (from +ℤ pos 1) n)
    by true rest = front_is from (runs test (from +ℤ pos 1) n) (omega (arith, ints, few)) rest
    by false rest = lower from (from +ℤ pos 1) (runs test (from +ℤ pos 1) n) (omega (arith, ints)) rest

abbrev among : ℤ → ℕ → ℤ → Bool
among from n t = int_le from t && int_lt t (from +ℤ pos n)

at_first : (from t : ℤ) → at_time from t ≡ true → t ≡ from
at_first from t e = grind (arith, ints)

pub runs_have : (test : ℤ → Bool) (from : ℤ) (n : ℕ) → (from +ℤ pos n) ≤ℤ (pos (2 ^ 50) +ℤ pos 1) → (t : ℤ) → has (runs test from n) t ≡ (among from n t && test t)
unfolding runs
runs_have test from zero few t = nothing (test t)
  where
    nothing : (p : Bool) → false ≡ (among from 0 t && p)
    nothing p = grind (arith, ints)
runs_have test from (suc n) few t = by (test from) refl (runs_have test (from +ℤ pos 1) n (omega (arith, ints, few)) t)
  where
    more : ℤ
    more = from +ℤ pos 1

    rest : AreSpansFrom more (runs test more n)
    rest = runs_are test more n (omega (arith, ints, few))

    first_passes : (p : Bool) → (at_time from t ≡ true → p ≡ true) → (at_time from t || (among more n t && p)) ≡ (among from (suc n) t && p)
    first_passes p here = grind (arith, ints)

    first_fails : (p : Bool) → (at_time from t ≡ true → p ≡ false) → (among more n t && p) ≡ (among from (suc n) t && p)
    first_fails p here = grind (arith, ints)

    by : (passes : Bool) → test from ≡ passes → has (runs test more n) t ≡ (among more n t && test t) → has (if passes then in_front from (runs test more n) else runs test more n) t ≡ (among from (suc n) t && test t)
    by true e among_more =
        front_has from (runs test more n) rest t
        ∙ (ap (λ (p : Bool). at_time from t || p) among_more ∙ first_passes (test t) (λ here. ap test (at_first from t here) ∙ e))
    by false e among_more = among_more ∙ first_fails (test t) (λ here. ap test (at_first from t here) ∙ e)

-- ---- from one time to another
module _ (test : ℤ → Bool) (from upto : ℤ) (ordered : from ≤ℤ upto) (early : earliest ≤ℤ from) (late : upto ≤ℤ pos (2 ^ 50)) where
  count_is : (from +ℤ pos (time_count from upto)) ≡ upto +ℤ pos 1
  count_is = omega (arith, ints, ordered)

  within : (from +ℤ pos (time_count from upto)) ≤ℤ (pos (2 ^ 50) +ℤ pos 1)
  within = omega (arith, ints, count_is, late)

  pub spans_of_are : AreSpansFrom earliest (spans_of test from upto)
  spans_of_are = lower earliest from (spans_of test from upto) early (runs_are test from (time_count from upto) within)

  pub spans_of_have : (t : ℤ) → has (spans_of test from upto) t ≡ (is_between from upto t && test t)
  spans_of_have t = runs_have test from (time_count from upto) within t ∙ ap (λ (p : Bool). p && test t) (same t)
    where
      ends : (end t : ℤ) → end ≡ upto +ℤ pos 1 → (int_le from t && int_lt t end) ≡ is_between from upto t
      ends end t e = grind (arith, ints)

      same : (t : ℤ) → among from (time_count from upto) t ≡ is_between from upto t
      same t = ends (from +ℤ pos (time_count from upto)) t count_is

  -- spans with these times are these
  pub are_spans_of : (xs : List Span) → AreSpansFrom earliest xs → ((t : ℤ) → has xs t ≡ (is_between from upto t && test t)) → xs ≡ spans_of test from upto
  are_spans_of xs is h = same_spans earliest xs (spans_of test from upto) is spans_of_are (λ t. h t ∙ sym (spans_of_have t))
