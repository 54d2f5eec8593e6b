-- The bound of a formula for which a step stands, as it was asked for.
use Rattle.std.proofs.Common.{◌≡◌, ◌∙◌, ℕ, ℤ, sym, subst}
use Rattle.spec_expressions.specs.Term.{Term}
use Rattle.spec_bodies.specs.Views.{View}
use Rattle.spec_bounds.specs.Terms.{bound_over}
use Rattle.spec_steps.specs.declared.sights.Sight.{Sight}
use Rattle.spec_steps.specs.ColumnTerms.{of_term, sight_of}
use Rattle.column_steps.specs.Listed.{IsMadeAt, Listed}
use Rattle.event_bounds.specs.Made.{IsBound}
use Rattle.event_bounds.specs.declared.bound.Bound.{Bound as Made}

-- by a list for a sight, which is that of the states that were asked, which are those that are meant; and so are the times
pub bound_by : (v w : View) (sight : Sight) (l : Listed) (place : ℕ) (e : Term) (a b a' b' : ℤ) (made : Made) → w ≡ v → sight ≡ sight_of v → a' ≡ a → b' ≡ b → IsMadeAt l place (of_term sight e)
    → ((f : Term) → IsMadeAt l place (of_term (sight_of w) f) → made.range ≡ (bound_over w f a' b').range)
    → ((f : Term) → IsMadeAt l place (of_term (sight_of w) f) → made.step ≡ (bound_over w f a' b').step)
    → IsBound made (bound_over v e a b)
bound_by v w sight l place e a b a' b' made same seen first last stands range step =
    let asked = subst (λ (u : View). IsMadeAt l place (of_term (sight_of u) e)) (sym same) (subst (λ (s : Sight). IsMadeAt l place (of_term s e)) seen stands) in
    record {
      range = range e asked ∙ (λ i. (bound_over (same i) e (first i) (last i)).range);
      step = step e asked ∙ (λ i. (bound_over (same i) e (first i) (last i)).step);
    }
