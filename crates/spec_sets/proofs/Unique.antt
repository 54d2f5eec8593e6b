-- Spans are told by their times: two lists that have the same times are one.
use Rattle.std.proofs.Common.{◌≡◌, ◌⊎◌, inl, inr, true, false, List, [], ◌∷◌, ℤ, pos, ◌+ℤ◌, ◌≤ℤ◌, ◌<ℤ◌, refl, sym, ◌∙◌, subst, arith}
use Rattle.std.proofs.lemmas.Int.{ints}
use Rattle.std.proofs.lemmas.Bool.{both_ways}
use Rattle.spec_trees.proofs.Sides.{upto_or_after}
use Rattle.spec_sets.specs.Spans.{Span, is_in, has, AreSpansFrom}
use Rattle.spec_sets.proofs.Members.{holds_no, not_later, inside, is_past, has_first, has_rest}

begins : (low : ℤ) (x : Span) (xs : List Span) → AreSpansFrom low (x ∷ xs) → has (x ∷ xs) x.0 ≡ true
begins low x xs is = let ordered = is.1 in has_first x xs x.0 (inside x x.0 (omega (arith, ints)) ordered)

-- the first begins no later than any of its times
from_first : (low : ℤ) (x : Span) (xs : List Span) → AreSpansFrom low (x ∷ xs) → (t : ℤ) → has (x ∷ xs) t ≡ true → x.0 ≤ℤ t
from_first low x xs is = holds_no x.0 (x ∷ xs) (omega (arith, ints), is.1, is.2, is.3)

-- the first of those that begin together ends no later than that of the others
ends_by : (low : ℤ) (x y : Span) (xs ys : List Span) → AreSpansFrom low (x ∷ xs) → AreSpansFrom low (y ∷ ys) → x.0 ≡ y.0
    → ((t : ℤ) → has (x ∷ xs) t ≡ has (y ∷ ys) t) → x.1 ≤ℤ y.1
ends_by low x y xs ys is js same h = by (upto_or_after x.1 y.1)
  where
    next : ℤ
    next = y.1 +ℤ pos 1

    by : (x.1 ≤ℤ y.1) ⊎ (y.1 <ℤ x.1) → x.1 ≤ℤ y.1
    by (inl e) = e
    by (inr e) =
        let ordered = js.1 in
        let here : is_in x next ≡ true = inside x next (omega (arith, ints, same, ordered)) (omega (arith, ints, e)) in
        let gone : has (y ∷ ys) next ≡ false = has_rest y ys next (is_past y next (omega (arith, ints))) ∙ not_later low y ys js next (omega (arith, ints)) in
        absurd (both_ways (has (y ∷ ys) next) gone (sym (h next) ∙ has_first x xs next here))

pub same_spans : (low : ℤ) (xs ys : List Span) → AreSpansFrom low xs → AreSpansFrom low ys → ((t : ℤ) → has xs t ≡ has ys t) → xs ≡ ys
same_spans low [] [] is js h = refl
same_spans low [] (y ∷ ys) is js h = absurd (both_ways (has (y ∷ ys) y.0) (sym (h y.0)) (begins low y ys js))
same_spans low (x ∷ xs) [] is js h = absurd (both_ways (has (x ∷ xs) x.0) (h x.0) (begins low x xs is))
same_spans low (x ∷ xs) (y ∷ ys) is js h = λ i. (first i, last i) ∷ same_spans (x.1 +ℤ pos 2) xs ys is.3 rest_are (λ t. rest_at t (upto_or_after t x.1)) i
  where
    first : x.0 ≡ y.0
    first =
        let one = from_first low y ys js x.0 (sym (h x.0) ∙ begins low x xs is) in
        let other = from_first low x xs is y.0 (h y.0 ∙ begins low y ys js) in
        omega (arith, ints, one, other)

    last : x.1 ≡ y.1
    last =
        let one = ends_by low x y xs ys is js first h in
        let other = ends_by low y x ys xs js is (sym first) (λ t. sym (h t)) in
        omega (arith, ints, one, other)

    rest_at : (t : ℤ) → (t ≤ℤ x.1) ⊎ (x.1 <ℤ t) → has xs t ≡ has ys t
    rest_at t (inl e) = not_later low x xs is t (omega (arith, ints, e)) ∙ sym (not_later low y ys js t (omega (arith, ints, e, last)))
    rest_at t (inr e) =
        sym (has_rest x xs t (is_past x t e)) ∙ (h t ∙ has_rest y ys t (is_past y t (omega (arith, ints, e, last))))

    rest_are : AreSpansFrom (x.1 +ℤ pos 2) ys
    rest_are = subst (λ (z : ℤ). AreSpansFrom (z +ℤ pos 2) ys) (sym last) js.3
