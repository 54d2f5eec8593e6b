-- Sets of sure and of possible times, together and one time longer.
use Rattle.std.proofs.Common.{◌≡◌, ◌⊎◌, inl, inr, Bool, true, false, not, ◌&&◌, ◌||◌, int_le, int_lt, List, [], ℤ, pos, ◌+ℤ◌, ◌-ℤ◌, ◌≤ℤ◌, ◌<ℤ◌, sym, ap, ◌∙◌, subst, arith}
use Rattle.std.specs.Prelude.{if◌then◌else◌}
use Rattle.std.proofs.lemmas.Int.{ints}
use Rattle.std.proofs.lemmas.Bool.{and_parts}
use Rattle.spec_intervals.specs.declared.signs.Sign.{Sign}
use Rattle.spec_intervals.specs.declared.signs.Sign.TheVariants.{Yes, No, Open}
use Rattle.spec_trees.proofs.Sides.{upto_or_after}
use Rattle.spec_sets.specs.Spans.{Span, is_in, has}
use Rattle.spec_sets.specs.Pairs.{AreOf}
use Rattle.spec_sets.specs.Spans.{is_between}
use Rattle.gf_sets.specs.Adding.{AreAdded}
use Rattle.spec_sets.specs.Signs.{is_possible, is_sure, opposite}
use Rattle.spec_sets.proofs.Members.{le_so}
use Rattle.spec_sets.specs.Spans.{IsAfterAll}

-- ---- by signs
opposite_sure : (x : Sign) → is_sure (opposite x) ≡ not (is_possible x)
opposite_sure x = grind arith

opposite_possible : (x : Sign) → is_possible (opposite x) ≡ not (is_sure x)
opposite_possible x = grind arith

not_within : (w p : Bool) → (w && not (w && p)) ≡ (w && not p)
not_within w p = grind arith

pub opposite_of : (x : ℤ → Sign) (from upto : ℤ) (sure maybe s m : List Span) → AreOf x from upto sure maybe
    → ((t : ℤ) → has s t ≡ (is_between from upto t && not (has maybe t))) → ((t : ℤ) → has m t ≡ (is_between from upto t && not (has sure t)))
    → AreOf (λ t. opposite (x t)) from upto s m
opposite_of x from upto sure maybe s m are a b = record {
  sure = λ t. a t ∙ (ap (λ h. is_between from upto t && not h) (are.maybe t) ∙ (not_within (is_between from upto t) (is_possible (x t)) ∙ ap (λ p. is_between from upto t && p) (sym (opposite_sure (x t)))));
  maybe = λ t. b t ∙ (ap (λ h. is_between from upto t && not h) (are.sure t) ∙ (not_within (is_between from upto t) (is_sure (x t)) ∙ ap (λ p. is_between from upto t && p) (sym (opposite_possible (x t)))));
}

-- ---- one run of times more
-- a span by other names of its ends
pub by_ends : (now old : List Span) (a b first last : ℤ) → a ≡ first → b ≡ last → ((t : ℤ) → has now t ≡ (has old t || is_in (a, b) t))
    → (t : ℤ) → has now t ≡ (has old t || is_in (first, last) t)
by_ends now old a b first last e f h t = h t ∙ (λ i. has old t || (int_le (e i) t && int_le t (f i)))

-- all of it, or none
with_all : (test : Sign → Bool) (sign : Sign) (first last : ℤ) (old now : List Span) → test sign ≡ true → ((t : ℤ) → has now t ≡ (has old t || is_in (first, last) t))
    → (t : ℤ) → has now t ≡ (has old t || (is_between first last t && test sign))
with_all test sign first last old now passes added t = added t ∙ ap (λ (b : Bool). has old t || b) (all (is_in (first, last) t) (test sign) passes)
  where
    all : (a b : Bool) → b ≡ true → a ≡ (a && b)
    all a b e = grind arith

with_none : (test : Sign → Bool) (sign : Sign) (first last : ℤ) (old : List Span) → test sign ≡ false
    → (t : ℤ) → has old t ≡ (has old t || (is_between first last t && test sign))
with_none test sign first last old fails t = none (has old t) (is_between first last t) (test sign) fails
  where
    none : (o a b : Bool) → b ≡ false → o ≡ (o || (a && b))
    none o a b e = grind arith

module _ (first last : ℤ) (sign : Sign) (sure maybe s m : List Span) where
  pub added_yes : sign ≡ Yes → ((t : ℤ) → has s t ≡ (has sure t || is_in (first, last) t)) → ((t : ℤ) → has m t ≡ (has maybe t || is_in (first, last) t))
      → AreAdded (λ t. sign) first last sure maybe s m
  added_yes is a b = record {
    sure = with_all is_sure sign first last sure s (ap is_sure is) a;
    maybe = with_all is_possible sign first last maybe m (ap is_possible is) b;
  }

  pub added_open : sign ≡ Open → ((t : ℤ) → has m t ≡ (has maybe t || is_in (first, last) t)) → AreAdded (λ t. sign) first last sure maybe sure m
  added_open is b = record {
    sure = with_none is_sure sign first last sure (ap is_sure is);
    maybe = with_all is_possible sign first last maybe m (ap is_possible is) b;
  }

  pub added_no : sign ≡ No → AreAdded (λ t. sign) first last sure maybe sure maybe
  added_no is = record {
    sure = with_none is_sure sign first last sure (ap is_sure is);
    maybe = with_none is_possible sign first last maybe (ap is_possible is);
  }

-- by other names
pub run_as_read : (x y : Sign) (a b first last : ℤ) (sure maybe s m : List Span) → x ≡ y → a ≡ first → b ≡ last → AreAdded (λ t. x) a b sure maybe s m
    → AreAdded (λ t. y) first last sure maybe s m
run_as_read x y a b first last sure maybe s m e f l added =
    subst (λ (w : Sign). AreAdded (λ t. w) first last sure maybe s m) e
    (subst (λ (z : ℤ). AreAdded (λ t. x) first z sure maybe s m) l (subst (λ (z : ℤ). AreAdded (λ t. x) z b sure maybe s m) f added))

-- a run that is told at its last time alone
pub turn_added : (x : Sign) (first last : ℤ) (sure maybe s m s_now m_now : List Span) → first ≤ℤ last → AreAdded (λ t. Open) first (last -ℤ pos 1) sure maybe s m
    → AreAdded (λ t. x) last last s m s_now m_now → AreAdded (λ t. if int_lt t last then Open else x) first last sure maybe s_now m_now
turn_added x first last sure maybe s m s_now m_now ordered before at = record {
  sure = λ t. at.sure t ∙ (ap (λ (h : Bool). h || (is_between last last t && is_sure x)) (before.sure t) ∙ both is_sure t (has sure t) (upto_or_after last t));
  maybe = λ t. at.maybe t ∙ (ap (λ (h : Bool). h || (is_between last last t && is_possible x)) (before.maybe t) ∙ both is_possible t (has maybe t) (upto_or_after last t));
}
  where
    early : (t : ℤ) (o p q : Bool) → t <ℤ last → ((o || ((int_le first t && int_le t (last -ℤ pos 1)) && p)) || ((int_le last t && int_le t last) && q)) ≡ (o || ((int_le first t && int_le t last) && p))
    early t o p q h = grind (arith, ints)

    late : (t : ℤ) (o p q : Bool) → last ≤ℤ t → ((o || ((int_le first t && int_le t (last -ℤ pos 1)) && p)) || ((int_le last t && int_le t last) && q)) ≡ (o || ((int_le first t && int_le t last) && q))
    late t o p q h = grind (arith, ints)

    is_early : (t : ℤ) → t <ℤ last → true ≡ int_lt t last
    is_early t h = grind (arith, ints)

    is_late : (t : ℤ) → last ≤ℤ t → false ≡ int_lt t last
    is_late t h = grind (arith, ints)

    both : (test : Sign → Bool) (t : ℤ) (o : Bool) → (last ≤ℤ t) ⊎ (t <ℤ last)
        → ((o || (is_between first (last -ℤ pos 1) t && test Open)) || (is_between last last t && test x)) ≡ (o || (is_between first last t && test (if int_lt t last then Open else x)))
    both test t o (inl h) = late t o (test Open) (test x) h ∙ ap (λ (b : Bool). o || (is_between first last t && test (if b then Open else x))) (is_late t h)
    both test t o (inr h) = early t o (test Open) (test x) h ∙ ap (λ (b : Bool). o || (is_between first last t && test (if b then Open else x))) (is_early t h)

-- sets that end before a run, and the run: one time longer
pub longer_by : (x y : ℤ → Sign) (from first last : ℤ) (sure maybe s m : List Span) → from ≤ℤ first → first ≤ℤ (last +ℤ pos 1)
    → AreOf x from (first -ℤ pos 1) sure maybe → AreAdded y first last sure maybe s m → ((t : ℤ) → first ≤ℤ t → t ≤ℤ last → x t ≡ y t) → AreOf x from last s m
longer_by x y from first last sure maybe s m start ordered are added same = record {
  sure = λ t. added.sure t ∙ at is_sure t (has sure t) (are.sure t) (upto_or_after first t) (upto_or_after t last);
  maybe = λ t. added.maybe t ∙ at is_possible t (has maybe t) (are.maybe t) (upto_or_after first t) (upto_or_after t last);
}
  where
    inside : (t : ℤ) (h p : Bool) → first ≤ℤ t → t ≤ℤ last → h ≡ ((int_le from t && int_le t (first -ℤ pos 1)) && p) → (h || ((int_le first t && int_le t last) && p)) ≡ ((int_le from t && int_le t last) && p)
    inside t h p after upto e = grind (arith, ints)

    earlier : (t : ℤ) (h p q : Bool) → t <ℤ first → h ≡ ((int_le from t && int_le t (first -ℤ pos 1)) && p) → (h || ((int_le first t && int_le t last) && q)) ≡ ((int_le from t && int_le t last) && p)
    earlier t h p q early e = grind (arith, ints)

    later : (t : ℤ) (h p q : Bool) → last <ℤ t → h ≡ ((int_le from t && int_le t (first -ℤ pos 1)) && p) → (h || ((int_le first t && int_le t last) && q)) ≡ ((int_le from t && int_le t last) && p)
    later t h p q late e = grind (arith, ints)

    at : (test : Sign → Bool) (t : ℤ) (h : Bool) → h ≡ (is_between from (first -ℤ pos 1) t && test (x t)) → (first ≤ℤ t) ⊎ (t <ℤ first) → (t ≤ℤ last) ⊎ (last <ℤ t)
        → (h || (is_between first last t && test (y t))) ≡ (is_between from last t && test (x t))
    at test t h e (inl after) (inl upto) = ap (λ (z : Sign). h || (is_between first last t && test z)) (sym (same t after upto)) ∙ inside t h (test (x t)) after upto e
    at test t h e (inr early) upto = earlier t h (test (x t)) (test (y t)) early e
    at test t h e (inl after) (inr late) = later t h (test (x t)) (test (y t)) late e

-- the times so far end before the next
pub ends_before : (x : ℤ → Sign) (from upto : ℤ) (sure maybe : List Span) → AreOf x from upto sure maybe → IsAfterAll sure (upto +ℤ pos 1) × IsAfterAll maybe (upto +ℤ pos 1)
ends_before x from upto sure maybe are = (λ t e. by t (is_sure (x t)) (sym (are.sure t) ∙ e), λ t e. by t (is_possible (x t)) (sym (are.maybe t) ∙ e))
  where
    by : (t : ℤ) (p : Bool) → ((int_le from t && int_le t upto) && p) ≡ true → t <ℤ (upto +ℤ pos 1)
    by t p e = let both = and_parts (int_le from t && int_le t upto) p e in
        let upto_is = le_so t upto (and_parts (int_le from t) (int_le t upto) both.0).1 in
        omega (arith, ints, upto_is)

-- no time yet
pub none_yet : (x : ℤ → Sign) (from : ℤ) → AreOf x from (from -ℤ pos 1) [] []
none_yet x from = record { sure = λ t. by t (is_sure (x t)); maybe = λ t. by t (is_possible (x t)) }
  where
    by : (t : ℤ) (p : Bool) → false ≡ ((int_le from t && int_le t (from -ℤ pos 1)) && p)
    by t p = grind (arith, ints)
