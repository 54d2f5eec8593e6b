-- The steps of an event's function and conditions, for what is seen.
use Rattle.std.specs.Prelude.{◌≡◌, ℕ, zero, suc, ◌<◌, Option, None, IfSome, List, length, slice_index_or}
use Rattle.spec_expressions.specs.Term.{Term}
use Rattle.spec_searches.specs.Event.{Condition, Event}
use Rattle.spec_steps.specs.declared.sights.Sight.{Sight}
use Rattle.spec_steps.specs.ColumnTerms.{ColumnTerm, of_term}
use Rattle.column_steps.specs.Listed.{IsMadeAt, Listed, Stands}
use Rattle.event_judge.specs.declared.listed_event.ListedEvent.{ListedEvent}
use Rattle.event_judge.specs.declared.slot_count.SlotCount.{SlotCount}
use Rattle.event_judge.specs.declared.slot_count.SlotCount.TheVariants.{Of28, Of64, Of128, Of256}

abbrev pub slot_count : SlotCount → ℕ
slot_count Of28 = 28
slot_count Of64 = 64
slot_count Of128 = 128
slot_count Of256 = 256

-- the step with this number stands for the formula, for what the list is of
abbrev pub IsFormulaAt : Listed → ℕ → Term → Type 0
IsFormulaAt l place e = IsMadeAt l place (of_term l.sight e)

-- a list in which all that stands in another stands at its place, for the same
pub record KeepsSteps (before after : Listed) : Type 0 where
  pub sight : after.sight ≡ before.sight
  pub kept : (place : ℕ) (t : ColumnTerm) → Stands before place t → Stands after place t

-- the step with this number, if there is one, stands for the condition with a place, if there is that
abbrev pub IsGuardAt : Listed → List Condition → ℕ → Option ℕ → Type 0
IsGuardAt l conditions place number =
    IfSome number (λ k. place < length conditions → (d : Condition) → IsFormulaAt l k (slice_index_or conditions place d).term)

abbrev pub place_of : ListedEvent → ℕ → Option ℕ
place_of l zero = l.first
place_of l (suc zero) = l.second
place_of l (suc (suc place)) = None

-- the numbers are those of the function and of the first two conditions, for what is seen, and each has a slot
pub record AreStepsOf (sight : Sight) (e : Event) (l : ListedEvent) : Type 0 where
  pub seen : l.steps.sight ≡ sight
  pub function : IsFormulaAt l.steps l.function e.function
  pub first : IsGuardAt l.steps e.conditions 0 l.first
  pub second : IsGuardAt l.steps e.conditions 1 l.second
  pub slot : l.function < slot_count l.slots
  pub slots : (place : ℕ) → IfSome (place_of l place) (λ k. k < slot_count l.slots)

-- a condition stands at a step that has one of n slots, if it stands at any
abbrev pub IsSlotOf : Listed → ℕ → Term → Option ℕ → Type 0
IsSlotOf l n e number = IfSome number (λ k. IsFormulaAt l k e × (k < n))

-- the numbers of all conditions, in a list of steps of which the first n have slots
abbrev pub AreGuardsAt : Listed → ℕ → List Condition → ListedEvent → Type 0
AreGuardsAt steps n conditions l =
    (place : ℕ) → place < length conditions → (d : Condition) → IsSlotOf steps n (slice_index_or conditions place d).term (place_of l place)
