-- The steps of a list over the times of a snapshot.
use Rattle.std.specs.Prelude.{◌≡◌, ℕ, List}
use Rattle.spec_intervals.specs.Enclosure.{Enclosure}
use Rattle.spec_steps.specs.Steps.{terms_of}
use Rattle.column_steps.specs.Listed.{Listed}
use Rattle.column_steps.specs.Values.{AreValues}
use Rattle.body_states.specs.Moments.{Moment, meant_in}

-- what is read: what both targets are made of over some times, a list of steps, and how many slots there are for them
pub record StepMoment : Type 0 where
  pub moment : Moment
  pub steps : Listed
  pub room : ℕ

-- the first n slots hold the enclosures of the first n steps
abbrev pub AreMade : Moment → Listed → ℕ → List Enclosure → Type 0
AreMade m l n slots = AreValues (λ t made. made ≡ meant_in m t) (terms_of l.steps) n slots
