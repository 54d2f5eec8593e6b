-- What the code makes of a bound.
use Rattle.std.specs.Prelude.{◌≡◌, ℕ}
use Rattle.spec_models.specs.Bounds.{Bound}
use Rattle.spec_bounds.specs.Limits.{IsBoundWithin}
use Rattle.event_bounds.specs.declared.bound.Bound.{Bound as Made}

-- both its parts are made
pub record IsBound (made : Made) (p : Bound) : Type 0 where
  pub range : made.range ≡ p.range
  pub step : made.step ≡ p.step

-- the bound that is made
abbrev pub bound_made : Made → Bound
bound_made made = record { range = made.range; step = made.step }

-- no exponent of it passes a limit
abbrev pub IsMadeWithin : ℕ → Made → Type 0
IsMadeWithin n made = IsBoundWithin n (bound_made made)
