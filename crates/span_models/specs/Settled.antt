-- How a model whose numbers are too large is brought to a coarser unit.
use Rattle.std.specs.Prelude.{ℕ, zero, suc, ◌+◌, ◌/◌, ◌^◌, ℤ, pos, ◌+ℤ◌}
use Rattle.spec_intervals.specs.Fraction.{Fraction}
use Rattle.spec_chebyshev.specs.Differences.{IsArgument}
use Rattle.span_models.specs.Sizes.{terms}
use Rattle.spec_models.specs.Models.{Model, IsNear, model, halved}

-- whatever is near the first model is near the second
abbrev pub Reaches : Model → Model → Type 0
Reaches m n = (p q : ℤ) (r : Fraction) → IsArgument p q → IsNear m p q r → IsNear n p q r

-- the error in units that are 2^k as great, where all coefficients are rounded; in the same units it stays
abbrev pub raised_error : ℕ → ℕ → ℕ
raised_error zero e = e
raised_error (suc k) e = e / 2 ^ suc k + suc terms

-- the model in units that are 2^k as great
abbrev pub at_coarser : ℕ → Model → Model
at_coarser k m = model (halved k m.coefficients) (raised_error k m.error) (m.exponent +ℤ pos k)
