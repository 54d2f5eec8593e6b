-- Which times spans have.
use Rattle.std.proofs.Common.{◌≡◌, ◌⊎◌, inl, inr, Bool, true, false, ◌&&◌, int_le, List, [], ◌∷◌, ℤ, pos, ◌+ℤ◌, ◌≤ℤ◌, ◌<ℤ◌, refl, arith}
use Rattle.std.proofs.lemmas.Int.{ints}
use Rattle.std.proofs.lemmas.Bool.{and_parts, or_cases, false_from_ne_true, false≢true}
use Rattle.spec_sets.specs.Spans.{Span, is_in, has, AreSpansFrom}

pub le_so : (a b : ℤ) → int_le a b ≡ true → a ≤ℤ b
le_so a b e = grind (arith, ints)

pub le_test : (a b : ℤ) → a ≤ℤ b → int_le a b ≡ true
le_test a b h = grind (arith, ints)

pub le_not : (a b : ℤ) → b <ℤ a → int_le a b ≡ false
le_not a b h = grind (arith, ints)

pub in_parts : (x : Span) (t : ℤ) → is_in x t ≡ true → (x.0 ≤ℤ t) × (t ≤ℤ x.1)
in_parts x t e = let both = and_parts (int_le x.0 t) (int_le t x.1) e in (le_so x.0 t both.0, le_so t x.1 both.1)

pub inside : (x : Span) (t : ℤ) → x.0 ≤ℤ t → t ≤ℤ x.1 → is_in x t ≡ true
inside x t from upto = rw (le_test x.0 t from, le_test t x.1 upto) refl

pub is_past : (x : Span) (t : ℤ) → x.1 <ℤ t → is_in x t ≡ false
is_past x t h = by (int_le x.0 t) (int_le t x.1) (le_not t x.1 h)
  where
    by : (p q : Bool) → q ≡ false → (p && q) ≡ false
    by true q e = e
    by false q e = refl

-- a test that cannot be passed
pub holds_no : (low : ℤ) (xs : List Span) → AreSpansFrom low xs → (t : ℤ) → has xs t ≡ true → low ≤ℤ t
holds_no low [] is t e = absurd (false≢true e)
holds_no low (x ∷ xs) is t e = by (or_cases (is_in x t) (has xs t) e) (holds_no (x.1 +ℤ pos 2) xs is.3 t)
  where
    by : (is_in x t ≡ true) ⊎ (has xs t ≡ true) → (has xs t ≡ true → (x.1 +ℤ pos 2) ≤ℤ t) → low ≤ℤ t
    by (inl here) more = let at = (in_parts x t here).0 in let from = is.0 in omega (arith, ints, at, from)
    by (inr later) more =
        let at = more later in
        let from = is.0 in
        let ordered = is.1 in
        omega (arith, ints, at, from, ordered)

-- a time before all
pub none_before : (low : ℤ) (xs : List Span) → AreSpansFrom low xs → (t : ℤ) → t <ℤ low → has xs t ≡ false
none_before low xs is t early = false_from_ne_true (has xs t) (λ e. let late = holds_no low xs is t e in absurd (omega (arith, ints, late, early)))

-- a time up to the end of the first is in none of the others
pub not_later : (low : ℤ) (x : Span) (xs : List Span) → AreSpansFrom low (x ∷ xs) → (t : ℤ) → t ≤ℤ (x.1 +ℤ pos 1) → has xs t ≡ false
not_later low x xs is t early = none_before (x.1 +ℤ pos 2) xs is.3 t (omega (arith, ints, early))

pub has_first : (x : Span) (xs : List Span) (t : ℤ) → is_in x t ≡ true → has (x ∷ xs) t ≡ true
has_first x xs t e = rw e refl

pub has_rest : (x : Span) (xs : List Span) (t : ℤ) → is_in x t ≡ false → has (x ∷ xs) t ≡ has xs t
has_rest x xs t e = rw e refl

-- spans may begin later than they have to
pub lower : (low high : ℤ) (xs : List Span) → low ≤ℤ high → AreSpansFrom high xs → AreSpansFrom low xs
lower low high [] h is = tt
lower low high (x ∷ xs) h is = let from = is.0 in (omega (arith, ints, from, h), is.1, is.2, is.3)
