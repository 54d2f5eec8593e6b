-- Quiet spans: over such a span the sign of the function of a search is known by its bound. The function then has that sign
-- at each time of the span, and each node within it is clear.
use Rattle.std.specs.Prelude.{◌≡◌, true, ℤ, ◌<ℤ◌}
use Rattle.spec_intervals.specs.Signs.{sign_of}
use Rattle.spec_intervals.specs.declared.signs.Sign.{Sign}
use Rattle.spec_events.specs.Verdict.{is_known}
use Rattle.spec_bodies.specs.Views.{Fits}
use Rattle.spec_searches.specs.Search.{Search}
use Rattle.spec_bounds.specs.Terms.{bound_over}

-- by its bound, the sign of the function at each of the times from a to b
abbrev pub sign_over : Search → ℤ → ℤ → Sign
sign_over s a b = sign_of (bound_over s.view s.event.function a b).range

-- several times between which no granule begins; by its bound, the function has one sign there
pub record IsQuiet (s : Search) (a b : ℤ) : Type 0 where
  pub fits : Fits s.view a b
  pub several : a <ℤ b
  pub known : is_known (sign_over s a b) ≡ true
