-- Sets of a span whose ends or signs have other names.
use Rattle.std.proofs.Common.{◌≡◌, Bool, true, false, ◌&&◌, List, ℤ, int_le, ◌≤ℤ◌, refl, ap, ◌∙◌, subst, w64, to_z, of_z, arith}
use Rattle.std.proofs.lemmas.Int.{fits_signed_from_abs, ints, to_z-of_z}
use mir.Val.{SFits}
use Rattle.spec_intervals.specs.declared.signs.Sign.{Sign}
use Rattle.spec_sets.specs.Pairs.{AreOf}
use Rattle.spec_sets.specs.Signs.{is_possible, is_sure, opposite}
use Rattle.spec_sets.specs.Spans.{has, is_between}
use Rattle.spec_outcomes.specs.declared.query.Span.{Span}
use Rattle.gf_sets.specs.declared.pair.Pair.{Pair}
use Rattle.gf_search.specs.Reached.{HasSets}

pub renamed : (sign : ℤ → Sign) (a b from upto : ℤ) (surely perhaps : List (ℤ × ℤ)) → a ≡ from → b ≡ upto
    → AreOf sign a b surely perhaps → AreOf sign from upto surely perhaps
renamed sign a b from upto surely perhaps first last are =
    subst (λ (z : ℤ). AreOf sign from z surely perhaps) last (subst (λ (z : ℤ). AreOf sign z b surely perhaps) first are)

-- sets of other signs that are the same over a span
told : (from upto t : ℤ) (x y b : Bool) → (t ≤ℤ upto → x ≡ y) → b ≡ (is_between from upto t && x) → b ≡ (is_between from upto t && y)
told from upto t x y b same is = by (int_le from t) (int_le t upto) refl is
  where
    no_later : int_le t upto ≡ true → t ≤ℤ upto
    no_later e = grind (arith, ints)

    by : (p q : Bool) → int_le t upto ≡ q → b ≡ ((p && q) && x) → b ≡ ((p && q) && y)
    by p true e h = h ∙ ap (λ (z : Bool). (p && true) && z) (same (no_later e))
    by p false e h = h ∙ none p x y
      where
        none : (p x y : Bool) → ((p && false) && x) ≡ ((p && false) && y)
        none p x y = grind arith

pub same_signs : (x y : ℤ → Sign) (from upto : ℤ) (surely perhaps : List (ℤ × ℤ)) → ((t : ℤ) → t ≤ℤ upto → x t ≡ y t)
    → AreOf x from upto surely perhaps → AreOf y from upto surely perhaps
same_signs x y from upto surely perhaps same are = record {
  sure = λ t. told from upto t (is_sure (x t)) (is_sure (y t)) (has surely t) (λ before. ap is_sure (same t before)) (are.sure t);
  maybe = λ t. told from upto t (is_possible (x t)) (is_possible (y t)) (has perhaps t) (λ before. ap is_possible (same t before)) (are.maybe t);
}

-- sets over the ends of a span as they are read
module _ (span : Span) (has : HasSets span) where
  from_fits : SFits w64 span.from
  from_fits = fits_signed_from_abs w64 span.from (omega (arith, ints, has.ordered, has.early, has.late))

  upto_fits : SFits w64 span.upto
  upto_fits = fits_signed_from_abs w64 span.upto (omega (arith, ints, has.ordered, has.early, has.late))

  -- what is of the opposite signs is so over the span
  pub opposite_as_read : (pair below : Pair)
      → ((x : ℤ → Sign) → AreOf x (to_z w64 (of_z w64 span.from)) (to_z w64 (of_z w64 span.upto)) pair.sure pair.maybe
      → AreOf (λ t. opposite (x t)) (to_z w64 (of_z w64 span.from)) (to_z w64 (of_z w64 span.upto)) below.sure below.maybe)
      → (x : ℤ → Sign) → AreOf x span.from span.upto pair.sure pair.maybe → AreOf (λ t. opposite (x t)) span.from span.upto below.sure below.maybe
  opposite_as_read pair below are x =
      subst (λ (z : ℤ). AreOf x span.from z pair.sure pair.maybe → AreOf (λ t. opposite (x t)) span.from z below.sure below.maybe) (to_z-of_z w64 span.upto upto_fits)
      (subst (λ (z : ℤ). AreOf x z (to_z w64 (of_z w64 span.upto)) pair.sure pair.maybe → AreOf (λ t. opposite (x t)) z (to_z w64 (of_z w64 span.upto)) below.sure below.maybe)
      (to_z-of_z w64 span.from from_fits) (are x))
