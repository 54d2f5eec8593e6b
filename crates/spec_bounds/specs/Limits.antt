-- The limits of the exponents of bounds.
use Rattle.std.specs.Prelude.{ℕ}
use Rattle.spec_intervals.specs.Enclosure.{IsWithin}
use Rattle.spec_models.specs.Bounds.{Bound}

-- both parts have small ends, and an exponent of at most n in magnitude
pub record IsBoundWithin (n : ℕ) (p : Bound) : Type 0 where
  pub range : IsWithin n p.range
  pub step : IsWithin n p.step
