-- The sets of signs that are so of a condition.
use Rattle.std.proofs.Common.{◌≡◌, Bool, true, ◌&&◌, int_le, List, ℤ, ◌≤ℤ◌, refl, sym, ◌∙◌}
use Rattle.std.proofs.lemmas.Bool.{and_parts}
use Rattle.spec_intervals.specs.declared.signs.Sign.{Sign}
use Rattle.spec_intervals.specs.declared.signs.Sign.TheVariants.{Yes, No, Open}
use Rattle.spec_events.specs.Soundness.{Tells}
use Rattle.spec_sets.specs.Spans.{Span, is_between}
use Rattle.spec_sets.specs.Pairs.{AreOf, AreSets}
use Rattle.spec_sets.specs.Signs.{is_sure, is_possible}
use Rattle.spec_sets.proofs.Members.{le_so, le_test}

is_yes : (x : Sign) → is_sure x ≡ true → x ≡ Yes
is_yes Yes e = refl
is_yes No e = absurd (cc)
is_yes Open e = absurd (cc)

may_be : (x : Sign) → (x ≡ No → ⊥) → is_possible x ≡ true
may_be Yes h = refl
may_be No h = absurd (h refl)
may_be Open h = refl

within : (from upto t : ℤ) → from ≤ℤ t → t ≤ℤ upto → is_between from upto t ≡ true
within from upto t after before = rw (le_test from t after, le_test t upto before) refl

pub sets_of_true_signs : (P : ℤ → Type 0) (sign : ℤ → Sign) (from upto : ℤ) (sure maybe : List Span) → AreOf sign from upto sure maybe
    → ((t : ℤ) → from ≤ℤ t → t ≤ℤ upto → Tells (sign t) (P t)) → AreSets P from upto sure maybe
sets_of_true_signs P sign from upto sure maybe are tells = record {
  sure = λ t there. certain t (and_parts (is_between from upto t) (is_sure (sign t)) (sym (are.sure t) ∙ there));
  possible = λ t after before holds. are.maybe t
      ∙ both (is_between from upto t) (is_possible (sign t)) (within from upto t after before)
      (may_be (sign t) (λ no. (tells t after before).no no holds));
}
  where
    certain : (t : ℤ) → (is_between from upto t ≡ true) × (is_sure (sign t) ≡ true) → P t
    certain t (between, is) =
        let parts = and_parts (int_le from t) (int_le t upto) between in
        (tells t (le_so from t parts.0) (le_so t upto parts.1)).yes (is_yes (sign t) is)

    both : (a b : Bool) → a ≡ true → b ≡ true → (a && b) ≡ true
    both a b e f = rw (e, f) refl
