-- Models of what is seen of two bodies over some times.
use Rattle.std.specs.Prelude.{◌≡◌, ℤ, Option}
use Rattle.spec_intervals.specs.Interval.{Interval}
use Rattle.spec_models.specs.Models.{Model}
use Rattle.spec_bodies.specs.Views.{Fits}
use Rattle.spec_steps.specs.ColumnTerms.{ColumnTerm}
use Rattle.spec_steps.specs.Meanings.{point_meant}
use Rattle.event_models.specs.declared.spans.Span.{Span}
use Rattle.event_models.specs.Covered.{IsIfMade}
use Rattle.event_models.specs.Granules.{AreLines}

-- between its times no granule begins, and the lines of granules are those over these times
pub record IsSpanSeen (s : Span) : Type 0 where
  pub same : s.states.now.ephemeris ≡ s.ephemeris.now
  pub fits : Fits s.states.now s.times.first s.times.last
  pub position : AreLines s.times.first s.times.last s.position.now
  pub velocity : AreLines s.times.first s.times.last s.velocity.now

-- the interval of a term at each time
abbrev pub term_at : Span → ColumnTerm → ℤ → Interval
term_at s x t = point_meant s.states.now s.times.first t x

-- a model covers that at each time, if it is made
abbrev pub IsTermModel : Span → ColumnTerm → Option Model → Type 0
IsTermModel s x made = IsIfMade s.times.first s.times.last made (term_at s x)
