-- What is known of columns over some times, and what a bound over these times is.
use Rattle.std.specs.Prelude.{◌≡◌}
use Rattle.spec_bodies.specs.declared.quantity.Quantity.{Quantity}
use Rattle.spec_bodies.specs.declared.quantity.Quantity.TheVariants.{Position, Velocity}
use Rattle.spec_bodies.specs.Views.{Fits}
use Rattle.spec_steps.specs.ColumnTerms.{ColumnTerm}
use Rattle.spec_steps.specs.Meanings.{bound_meant}
use Rattle.body_states.specs.Ranges.{Asked}
use Rattle.event_bounds.specs.declared.bound.Bound.{Bound as Made}
use Rattle.event_bounds.specs.declared.spans.Span.{Span}
use Rattle.event_bounds.specs.Made.{IsBound}

-- a quantity of its columns over its times
pub record IsAsked (s : Span) (q : Quantity) (r : Asked) : Type 0 where
  pub view : r.view ≡ s.states.now
  pub quantity : r.quantity ≡ q
  pub first : r.first ≡ s.times.span.now.first
  pub last : r.last ≡ s.times.span.now.last

-- between its times no granule begins, and what is known is of its columns over its times
pub record IsSpanRight (s : Span) : Type 0 where
  pub fits : Fits s.states.now s.times.span.now.first s.times.span.now.last
  pub position : IsAsked s Position s.position.now
  pub velocity : IsAsked s Velocity s.velocity.now

-- it is the bound of a term over its times
abbrev pub IsBoundOf : Span → ColumnTerm → Made → Type 0
IsBoundOf s t made = IsBound made (bound_meant s.states.now s.times.span.now.first s.times.span.now.last t)
