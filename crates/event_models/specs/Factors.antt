-- The factors by which velocities are scaled.
use Rattle.std.specs.Prelude.{ℕ, ℤ, pos}
use Rattle.spec_intervals.specs.Fraction.{fraction}
use Rattle.spec_chebyshev.specs.Differences.{IsArgument}
use Rattle.spec_models.specs.Models.{IsNear, Model}

-- 2 / length is near the model at each argument
abbrev pub IsFactor : ℕ → Model → Type 0
IsFactor length m = (p q : ℤ) → IsArgument p q → IsNear m p q (fraction (pos 2) length)
