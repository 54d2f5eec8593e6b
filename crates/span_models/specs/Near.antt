-- What a model says of numbers that are near other models.
use Rattle.std.specs.Prelude.{ℤ}
use Rattle.spec_intervals.specs.Fraction.{Fraction, fraction_add, fraction_sub, fraction_mul}
use Rattle.spec_chebyshev.specs.Differences.{IsArgument}
use Rattle.spec_models.specs.Models.{Model, IsNear}

-- sums, differences and products of numbers near two models are near a third
abbrev pub IsSumOf : Model → Model → Model → Type 0
IsSumOf k m n = (p q : ℤ) (r t : Fraction) → IsArgument p q → IsNear m p q r → IsNear n p q t → IsNear k p q (fraction_add r t)

abbrev pub IsDifferenceOf : Model → Model → Model → Type 0
IsDifferenceOf k m n = (p q : ℤ) (r t : Fraction) → IsArgument p q → IsNear m p q r → IsNear n p q t → IsNear k p q (fraction_sub r t)

abbrev pub IsProductOf : Model → Model → Model → Type 0
IsProductOf k m n = (p q : ℤ) (r t : Fraction) → IsArgument p q → IsNear m p q r → IsNear n p q t → IsNear k p q (fraction_mul r t)
