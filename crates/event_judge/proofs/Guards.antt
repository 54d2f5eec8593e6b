-- Tests of a list, one element after the other; and the steps of the conditions of an event.
use Rattle.std.proofs.Common.{◌≡◌, ◌∙◌, ℕ, zero, suc, ◌+◌, ◌<◌, ◌≤◌, Bool, true, false, ◌||◌, ◌&&◌, List, length, get_or, drop, Option, None, Some, ap, subst, sym, arith}
use Rattle.std.specs.Prelude.{IfSome}
use Rattle.std.specs.List.{list_all, list_any}
use Rattle.std.proofs.lemmas.List.{at_drop_more}
use Rattle.spec_intervals.specs.Enclosure.{Enclosure}
use Rattle.spec_expressions.specs.Term.{Term}
use Rattle.spec_searches.specs.Event.{Condition, Event}
use Rattle.spec_steps.specs.declared.sights.Sight.{Sight}
use Rattle.spec_steps.specs.ColumnTerms.{of_term}
use Rattle.column_steps.specs.Listed.{IsMadeAt, Listed}
use Rattle.body_states.specs.Moments.{Moment, enclosure_in}
use Rattle.step_enclosures.specs.Moments.{StepMoment}
use Rattle.event_judge.specs.declared.listed_event.ListedEvent.{ListedEvent}
use Rattle.event_judge.specs.Listed.{AreGuardsAt, AreStepsOf, IsFormulaAt, IsGuardAt, IsSlotOf, KeepsSteps, place_of, slot_count}

-- ---- what is left of a list, past an element that does not decide
module _ {X : Type 0} (p : X → Bool) (xs : List X) (i : ℕ) where
  pub any_more : (d : X) → i < length xs → p (get_or xs i d) ≡ false → list_any p xs ≡ list_any p (drop i xs) → list_any p xs ≡ list_any p (drop (i + 1) xs)
  any_more d below fails left = left ∙ (at_drop_more (list_any p) xs i d below ∙ ap (λ (b : Bool). b || list_any p (drop (i + 1) xs)) fails)

  pub all_more : (d : X) → i < length xs → p (get_or xs i d) ≡ true → list_all p xs ≡ list_all p (drop i xs) → list_all p xs ≡ list_all p (drop (i + 1) xs)
  all_more d below holds left = left ∙ (at_drop_more (list_all p) xs i d below ∙ ap (λ (b : Bool). b && list_all p (drop (i + 1) xs)) holds)

-- what was found of one element, by what is known as it was at first
pub found_first : {K X : Type 0} (test : K → X → Bool) (at before : K) → at ≡ before → (own read : X) → own ≡ read → (r b : Bool) → r ≡ test at own → r ≡ b → test before read ≡ b
found_first {K} {X} test at before same own read is r b by e = subst (λ (k : K). test k read ≡ b) same (subst (λ (x : X). test at x ≡ b) is (sym by ∙ e))

-- ---- the steps of the conditions
pub step_of_guard : (steps : Listed) (n : ℕ) (cs : List Condition) (l : ListedEvent) (place : ℕ) → AreGuardsAt steps n cs l → place < length cs → (d c : Condition) → get_or cs place d ≡ c
    → IsSlotOf steps n c.term (place_of l place)
step_of_guard steps n cs l place are below d c is = subst (λ (x : Condition). IsSlotOf steps n x.term (place_of l place)) is (are place below d)

slot_of : (l : Listed) (n : ℕ) (cs : List Condition) (place : ℕ) (number : Option ℕ) → IsGuardAt l cs place number → IfSome number (λ k. k < n) → place < length cs → (d : Condition)
    → IsSlotOf l n (get_or cs place d).term number
slot_of l n cs place None made few below d = made
slot_of l n cs place (Some k) made few below d = (made below d, few)

guard_at : (sight : Sight) (e : Event) (l : ListedEvent) → AreStepsOf sight e l → (place : ℕ) → IsGuardAt l.steps e.conditions place (place_of l place)
guard_at sight e l are zero = are.first
guard_at sight e l are (suc zero) = are.second
guard_at sight e l are (suc (suc place)) = tt

pub guards_at : (sight : Sight) (e : Event) (l : ListedEvent) → AreStepsOf sight e l → AreGuardsAt l.steps (slot_count l.slots) e.conditions l
guards_at sight e l are place below d = slot_of l.steps (slot_count l.slots) e.conditions place (place_of l place) (guard_at sight e l are place) (are.slots place) below d

-- the enclosure of a formula by a list of its own
pub own_by : (l : Listed) (place : ℕ) (sight : Sight) (e : Term) (m : StepMoment) (room : ℕ) (moment : Moment) (made : Enclosure) → m ≡ record { moment = moment; steps = l; room = room } → l.sight ≡ sight
    → IsMadeAt l place (of_term sight e) → ((f : Term) → IsMadeAt m.steps place (of_term m.steps.sight f) → made ≡ enclosure_in m.moment f) → made ≡ enclosure_in moment e
own_by l place sight e m room moment made is seen stands law =
    law e (subst (λ (x : StepMoment). IsMadeAt x.steps place (of_term x.steps.sight e)) (sym is) (subst (λ (s : Sight). IsMadeAt l place (of_term s e)) (sym seen) stands))
    ∙ ap (λ (x : StepMoment). enclosure_in x.moment e) is

-- ---- lists that keep what stands in them
formula_kept : (before after : Listed) (k : ℕ) (e : Term) → KeepsSteps before after → IsFormulaAt before k e → IsFormulaAt after k e
formula_kept before after k e kept made = subst (λ (s : Sight). IsMadeAt after k (of_term s e)) (sym kept.sight) (record { stands = kept.kept k (of_term before.sight e) made.stands; slot = made.slot })

guard_kept : (before after : Listed) (cs : List Condition) (place : ℕ) (number : Option ℕ) → KeepsSteps before after → IsGuardAt before cs place number → IsGuardAt after cs place number
guard_kept before after cs place None kept made = made
guard_kept before after cs place (Some k) kept made = λ below d. formula_kept before after k (get_or cs place d).term kept (made below d)

slot_below : (number : Option ℕ) (last n : ℕ) → last < n → IfSome number (λ k. k ≤ last) → IfSome number (λ k. k < n)
slot_below None last n below few = few
slot_below (Some k) last n below few = omega (arith, below, few)

pub slot_upto : (number : Option ℕ) (last n : ℕ) → last ≤ n → IfSome number (λ k. k ≤ last) → IfSome number (λ k. k ≤ n)
slot_upto None last n upto few = few
slot_upto (Some k) last n upto few = omega (arith, upto, few)

slots_below : (l : ListedEvent) (last n : ℕ) → last < n → IfSome l.first (λ k. k ≤ last) → IfSome l.second (λ k. k ≤ last) → (place : ℕ) → IfSome (place_of l place) (λ k. k < n)
slots_below l last n below first second zero = slot_below l.first last n below first
slots_below l last n below first second (suc zero) = slot_below l.second last n below second
slots_below l last n below first second (suc (suc place)) = tt

-- the function and then two conditions
pub steps_of : (sight : Sight) (e : Event) (l : ListedEvent) (first second : Listed) → first.sight ≡ sight → IsMadeAt first l.function (of_term sight e.function)
    → KeepsSteps first second → IsGuardAt second e.conditions 0 l.first → KeepsSteps second l.steps → IsGuardAt l.steps e.conditions 1 l.second
    → (last : ℕ) → last < slot_count l.slots → l.function ≤ last → IfSome l.first (λ k. k ≤ last) → IfSome l.second (λ k. k ≤ last) → AreStepsOf sight e l
steps_of sight e l first second seen made kept one kept_next two last below function_below first_below second_below = record {
  seen = kept_next.sight ∙ (kept.sight ∙ seen);
  function = formula_kept second l.steps l.function e.function kept_next (formula_kept first second l.function e.function kept (subst (λ (s : Sight). IsMadeAt first l.function (of_term s e.function)) (sym seen) made));
  first = guard_kept second l.steps e.conditions 0 l.first kept_next one;
  second = two;
  slot = omega (arith, below, function_below);
  slots = slots_below l last (slot_count l.slots) below first_below second_below;
}
