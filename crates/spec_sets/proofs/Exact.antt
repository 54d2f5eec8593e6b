-- Known signs make known signs together, and one set of times.
use Rattle.std.proofs.Common.{◌≡◌, Bool, true, false, not, ◌&&◌, ◌||◌, List, ℤ, ◌≤ℤ◌, refl, ap, ◌∙◌}
use Rattle.spec_intervals.specs.declared.signs.Sign.{Sign}
use Rattle.spec_sets.specs.Pairs.{AreOf}
use Rattle.spec_sets.specs.Signs.{both, either, is_possible, is_sure, known, opposite}
use Rattle.spec_sets.specs.Spans.{Span, has, is_between}
use Rattle.spec_sets.proofs.Members.{in_parts}

pub opposite_is : (a : Bool) → opposite (known a) ≡ known (not a)
opposite_is true = refl
opposite_is false = refl

pub either_is : (a b : Bool) → either (known a) (known b) ≡ known (a || b)
either_is true b = refl
either_is false b = refl

pub both_are : (a b : Bool) → both (known a) (known b) ≡ known (a && b)
both_are true b = refl
both_are false b = refl

sure_is : (a : Bool) → is_sure (known a) ≡ a
sure_is true = refl
sure_is false = refl

possible_is : (a : Bool) → is_possible (known a) ≡ a
possible_is true = refl
possible_is false = refl

-- what is asked only between two times
only_there : (between one other : Bool) → (between ≡ true → one ≡ other) → (between && one) ≡ (between && other)
only_there true one other same = same refl
only_there false one other same = refl

module _ (p : ℤ → Bool) (sign : ℤ → Sign) (from upto : ℤ) (sure maybe : List Span) (are : AreOf sign from upto sure maybe)
    (signs : (t : ℤ) → from ≤ℤ t → t ≤ℤ upto → sign t ≡ known (p t)) where
  here : (t : ℤ) → is_between from upto t ≡ true → sign t ≡ known (p t)
  here t between = let ends = in_parts (from, upto) t between in signs t ends.0 ends.1

  pub sure_are : (t : ℤ) → has sure t ≡ (is_between from upto t && p t)
  sure_are t =
      are.sure t ∙ only_there (is_between from upto t) (is_sure (sign t)) (p t) (λ between. ap is_sure (here t between) ∙ sure_is (p t))

  pub possible_are : (t : ℤ) → has maybe t ≡ (is_between from upto t && p t)
  possible_are t =
      are.maybe t ∙ only_there (is_between from upto t) (is_possible (sign t)) (p t) (λ between. ap is_possible (here t between) ∙ possible_is (p t))
